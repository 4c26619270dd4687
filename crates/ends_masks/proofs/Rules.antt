-- The paper's three rules on choices are those said of rows and columns. Assumes nothing.
use mathlib.Core.Path.{◌≡◌, refl, sym, ap, ap₂, subst, ◌∙◌}
use Prim.Native.Nat.{ℕ, ◌+◌, ◌<◌}
use native.Mathlib.Omega.{arith}
use mathlib.Core.Bool.{Bool, true, false, not, ◌&&◌, ◌||◌, cond, or_self, or-false}
use mathlib.Core.Logic.{⊎_elim}
use mathlib.Core.List.{List}
use lib.Dec.{eqb, leb}
use lib.ListN.{length}
use borrow.Author.Tests.{eq-eqb, eqb-true}
use Rattle.paper.specs.Lists.{at, has, below, all, any, count, keep, lowest, one_if, within, ◌⇒◌}
use Rattle.paper.specs.Table.{nodes, kind, owner, lower, upper, into, inputs, is_action, is_pin, is_fork, is_buffer, is_outgoing, is_object_node}
use Rattle.paper.specs.Offers.{Offer, last_edge, makers, origins, elem, compete, made_at, target_of, belongs}
use Rattle.paper.specs.Choices.{Board, how_many, end, taken, taken_ends, arrivals, taken_makers, rule1, passed_whole, rule2, action_agrees, agrees, rule3}
use Rattle.paper.proofs.Bools.{and-true, and_both, or-true, if_true, iff}
use Rattle.paper.proofs.Members.{In, in_gather, gather_in, any_in, in_any, all_in, in_all, in_below, below_in}
use Rattle.paper.proofs.Counts.{any-keep}
use Rattle.paper.proofs.Actions.{agrees-every-edge}
use Rattle.paper.proofs.Sameness.{elem_in, in_elem}
use Rattle.offers.specs.Sets.{nth}
use Rattle.offers.specs.Rows.{Row}
use Rattle.offers.specs.Struct.{Beside, rows_of}
use Rattle.offers.specs.declared.Offers.{Offers}
use Rattle.ends_masks.specs.declared.Ends.{Ends}
use Rattle.offers.proofs.Sets.{member, number, meet}
use Rattle.offers.proofs.Rows.{rows-compete}
use Rattle.ends_masks.specs.Seating.{Seated, MarkingTold, rival, rivalled, first_rivalled, siblings, makes, kept, passed, forks, seats, served, action_fits, fits, homes}
use Rattle.ends_masks.proofs.Numbers.{any-below-alike, all_alike, lowest-alike, find-keep, kept-number}
use Rattle.ends_masks.proofs.Taking.{origins_make, any-ends, count-ends, makes-row, maker_row}

-- a rule that is made out where it applies
pub if_so : (a b : Bool) → (a ≡ true → b ≡ true) → a ⇒ b ≡ true
if_so true b f = f refl
if_so false b f = refl

-- two rules with one test, that agree where it holds
if_alike : (a b c : Bool) → (a ≡ true → b ≡ c) → a ⇒ b ≡ a ⇒ c
if_alike true b c f = f refl
if_alike false b c f = refl

idle : (b : Bool) → not b ≡ eqb (one_if b) 0
idle true = refl
idle false = refl

pub held-kind : (k : ℕ) → is_buffer k || is_outgoing k ≡ true → is_object_node k ≡ true
held-kind k h = ⊎_elim (λ e. rw (eqb-true k 5 e) refl) (λ e. rw (eqb-true k 7 e) refl) (or-true (is_buffer k) (is_outgoing k) h)

module _ (t : List ℕ) (d : Board) (o : Offers) (beside : Beside) (ts : List Offer) (es : Ends) (c : ℕ) (s : Seated t d (rows_of o beside) ts es) where
  -- ---- rule 1
  ends-compete : (k j : ℕ) → k < es.count → j < es.count → not (eqb j k) && compete d.table (end d k) (end d j) ≡ rival es.foes es.makers k j
  ends-compete k j lk lj =
      ap (λ (b : Bool). not (eqb j k) && b)
      (rw (s.table_is, sym (s.ends-are k lk), sym (s.ends-are j lj), s.foes-are k lk, s.makers-are k lk, s.foes-are j lj, s.makers-are j lj) (rows-compete t (rows_of o beside) ts s.holds_ts (at es.row k) (at es.row j) (s.inside k lk) (s.inside j lj)))

  pub rule1-rows : rule1 d c ≡ first_rivalled es.foes es.makers es.count c
  unfolding rule1 taken first_rivalled rivalled
  rule1-rows =
      find-keep (has c) (λ k. any (λ j. not (eqb j k) && compete d.table (end d k) (end d j)) (keep (has c) (below (how_many d)))) (below (how_many d))
      ∙ rw (sym s.number)
      (lowest-alike (λ k. has c k && any (λ j. not (eqb j k) && compete d.table (end d k) (end d j)) (keep (has c) (below es.count)))
      (λ k. has c k && any (λ j. has c j && rival es.foes es.makers k j) (below es.count)) es.count
      (λ k lk. ap (λ (b : Bool). has c k && b)
      (any-keep (has c) (λ j. not (eqb j k) && compete d.table (end d k) (end d j)) (below es.count)
      ∙ any-below-alike (λ j. has c j && (not (eqb j k) && compete d.table (end d k) (end d j))) (λ j. has c j && rival es.foes es.makers k j) es.count
      (λ j lj. ap (λ (b : Bool). has c j && b) (ends-compete k j lk lj)))))

  -- ---- rule 2
  abbrev row_of : (y : ℕ) → y < length ts → Row t ts (nth ts y) ((rows_of o beside).entry y)
  row_of y l = s.holds_ts.rows y l

  made_row : (y : ℕ) → y < length ts → made_at d.table (nth ts y) ≡ at o.node y
  made_row y l = rw s.table_is (sym (row_of y l).node-is)

  inside_ts : {y : ℕ} → In y (below o.count) → y < length ts
  inside_ts {y} m = omega (arith, in_below o.count m, s.holds_ts.count-is)

  row_inside : {y : ℕ} → y < length ts → In y (below o.count)
  row_inside {y} l = below_in o.count (omega (arith, s.holds_ts.count-is))

  -- y extends x at node i
  abbrev extending : ℕ → Offer → Offer → Bool
  extending i x y = eqb (made_at d.table y) i && elem x (origins y)

  -- what a maker of taken ends was made from is one too
  origin_taken : {x y : Offer} → In y (taken_makers d c) → In x (origins y) → In x (taken_makers d c)
  unfolding taken_makers
  origin_taken m k = let e = in_gather makers (taken_ends d c) m in gather_in makers e.1 (origins_make e.0 e.2 k)

  whole-kept : (i : ℕ) → passed_whole d c i ≡ true → (z : ℕ) → z < length ts → eqb (at o.node z) i ≡ true → kept o.node o.parents es.makers o.count es.count c z ≡ true
  unfolding passed_whole kept
  whole-kept i h z lz ez =
      if_so _ _ (λ hy.
      let y = any_in (λ y. siblings o.node o.parents y z && makes es.makers es.count c y) (below o.count) hy in
      let ly = inside_ts y.1 in
      let q = and-true (siblings o.node o.parents y.0 z) _ y.2 in
      let w = and-true (eqb (at o.node y.0) (at o.node z)) _ q.0 in
      let x = any_in (λ x. elem x (origins (nth ts z))) (origins (nth ts y.0)) (meet (row_of y.0 ly).parents-are (row_of z lz).parents-are ∙ w.1) in
      let my = elem_in (taken_makers d c) (makes-row t d o beside ts es c s y.0 ly ∙ q.1) in
      let r = all_in (λ x. any (extending i x) (taken_makers d c) ⇒ all (λ y. extending i x y ⇒ elem y (taken_makers d c)) d.all_offers) h (origin_taken my x.1) in
      let ny : eqb (made_at d.table (nth ts y.0)) i ≡ true = rw (made_row y.0 ly, eqb-true (at o.node y.0) (at o.node z) w.0) ez in
      let ey : extending i x.0 (nth ts y.0) ≡ true = and_both _ _ ny (in_elem x.1) in
      let u = if_true _ _ r (in_any (extending i x.0) my ey) in
      let v = all_in (λ y. extending i x.0 y ⇒ elem y (taken_makers d c)) u (elem_in d.all_offers (sym (s.offers-are (nth ts z)) ∙ in_elem (member ts z lz))) in
      let mz : eqb (made_at d.table (nth ts z)) i ≡ true = rw (made_row z lz) ez in
      sym (makes-row t d o beside ts es c s z lz) ∙ if_true _ _ v (and_both _ _ mz x.2))

  kept_whole : (i : ℕ) → ((z : ℕ) → z < length ts → eqb (at o.node z) i ≡ true → kept o.node o.parents es.makers o.count es.count c z ≡ true) → passed_whole d c i ≡ true
  unfolding passed_whole kept
  kept_whole i h =
      in_all (λ x. any (extending i x) (taken_makers d c) ⇒ all (λ y. extending i x y ⇒ elem y (taken_makers d c)) d.all_offers) (taken_makers d c) (λ x mx.
      if_so _ _ (λ hy.
      let y = any_in (extending i x) (taken_makers d c) hy in
      let yr = maker_row t d o beside ts es c s y.1 in
      let qy = and-true (eqb (made_at d.table y.0) i) _ y.2 in
      in_all (λ y. extending i x y ⇒ elem y (taken_makers d c)) d.all_offers (λ z mz.
      if_so _ _ (λ hz.
      let zr = number (elem_in ts (s.offers-are z ∙ in_elem mz)) in
      let qz = and-true (eqb (made_at d.table z) i) _ hz in
      let ez : eqb (at o.node zr.0) i ≡ true = rw (sym (made_row zr.0 zr.1), zr.2) qz.0 in
      let ey : eqb (at o.node yr.0) i ≡ true = rw (sym (made_row yr.0 yr.1), yr.2) qy.0 in
      let oy : elem x (origins (nth ts yr.0)) ≡ true = rw yr.2 qy.1 in
      let oz : elem x (origins (nth ts zr.0)) ≡ true = rw zr.2 qz.1 in
      let sh = in_any (λ x. elem x (origins (nth ts zr.0))) (elem_in (origins (nth ts yr.0)) oy) oz in
      let sb : siblings o.node o.parents yr.0 zr.0 ≡ true = and_both _ _ (eq-eqb _ _ (eqb-true _ i ey ∙ sym (eqb-true _ i ez))) (sym (meet (row_of yr.0 yr.1).parents-are (row_of zr.0 zr.1).parents-are) ∙ sh) in
      let mk : makes es.makers es.count c yr.0 ≡ true = sym (makes-row t d o beside ts es c s yr.0 yr.1) ∙ rw yr.2 (in_elem y.1) in
      let r = if_true _ _ (h zr.0 zr.1 ez) (in_any (λ y. siblings o.node o.parents y zr.0 && makes es.makers es.count c y) (row_inside yr.1) (and_both _ _ sb mk)) in
      ap (λ x. elem x (taken_makers d c)) (sym zr.2) ∙ makes-row t d o beside ts es c s zr.0 zr.1 ∙ r))))

  whole-rows : (i : ℕ) → passed_whole d c i ≡ passed o.node o.parents es.makers o.count es.count c i
  unfolding passed
  whole-rows i =
      iff _ _
      (λ h. in_all (λ z. eqb (at o.node z) i ⇒ kept o.node o.parents es.makers o.count es.count c z) (below o.count) (λ z m. if_so _ _ (whole-kept i h z (inside_ts m))))
      (λ h. kept_whole i (λ z l e. if_true _ _ (all_in (λ z. eqb (at o.node z) i ⇒ kept o.node o.parents es.makers o.count es.count c z) h (row_inside l)) e))

  pub rule2-rows : rule2 d c ≡ forks o.node o.parents es.makers o.count es.count c t
  unfolding rule2 forks
  rule2-rows =
      lowest-alike (λ i. is_fork (kind d.table i) && not (passed_whole d c i)) (λ i. is_fork (kind d.table i) && not (passed o.node o.parents es.makers o.count es.count c i)) (nodes d.table)
      (λ i l. ap (λ (b : Bool). is_fork (kind d.table i) && not b) (whole-rows i))
      ∙ ap (λ (u : List ℕ). lowest (λ i. is_fork (kind u i) && not (passed o.node o.parents es.makers o.count es.count c i)) (nodes u)) s.table_is

  -- ---- rule 3
  last_row : (j : ℕ) → j < es.count → last_edge (nth ts (at es.row j)) ≡ at es.edge j
  last_row j l = sym (row_of (at es.row j) (s.inside j l)).last-is ∙ sym (s.edges_are j l)

  pub target_row : (j : ℕ) → j < es.count → target_of d.table (nth ts (at es.row j)) ≡ at es.target j
  target_row j l = rw (s.table_is, last_row j l) (sym (s.targets-are j l))

  belongs-row : (i j : ℕ) → j < es.count → belongs d.table i (nth ts (at es.row j)) ≡ eqb (at es.target j) i || eqb (at es.home j) i
  unfolding belongs
  belongs-row i j l = rw (target_row j l, s.table_is, s.homes-are j l) (by (is_pin (kind t (at es.target j))))
    where
      by : (b : Bool) → eqb (at es.target j) i || b && eqb (owner t (at es.target j)) i ≡ eqb (at es.target j) i || eqb (cond b (owner t (at es.target j)) (at es.target j)) i
      by true = refl
      by false = or-false (eqb (at es.target j) i) ∙ sym (or_self (eqb (at es.target j) i))

  -- the node i is served
  pub served-rows : (i : ℕ) → any (belongs d.table i) (taken_ends d c) ≡ served es.target es.home es.count c i
  unfolding served
  served-rows i = any-ends t d o beside ts es c s (belongs d.table i) (λ j. eqb (at es.target j) i || eqb (at es.home j) i) (belongs-row i)

  -- the ends taken at node i
  pub arrivals-rows : (i : ℕ) → length (arrivals d c i) ≡ seats es.target es.count c i
  unfolding arrivals seats
  arrivals-rows i =
      kept-number (λ x. eqb (target_of d.table x) i) (taken_ends d c)
      ∙ count-ends t d o beside ts es c s (λ x. eqb (target_of d.table x) i) (λ j. eqb (at es.target j) i) (λ j l. ap (λ (x : ℕ). eqb x i) (target_row j l))

  edge-rows : (e : ℕ) → count (λ x. eqb (last_edge x) e) (taken_ends d c) ≡ seats es.edge es.count c e
  unfolding seats
  edge-rows e = count-ends t d o beside ts es c s (λ x. eqb (last_edge x) e) (λ j. eqb (at es.edge j) e) (λ j l. ap (λ (x : ℕ). eqb x e) (last_row j l))

  module _ (runs stock : List ℕ) (m : MarkingTold t d.current runs stock) where
    action_rows : (i : ℕ) → i < nodes t → is_action (kind t i) ≡ true → action_agrees d c i ≡ action_fits d.table es.edge es.target es.home runs stock es.count c i
    unfolding action_fits
    action_rows i l a =
        agrees-every-edge d c i (rw s.table_is m.table-fine) (rw s.table_is a)
        ∙ ap₂ (λ (x y : Bool). x && y)
        (ap₂ (λ (x y : Bool). x && y) (idle (d.current.runs i) ∙ ap (λ (x : ℕ). eqb x 0) (sym (m.running i l a)))
        (all_alike (λ e. eqb (count (λ x. eqb (last_edge x) e) (taken_ends d c)) 1) (λ e. eqb (seats es.edge es.count c e) 1) (into d.table i) (λ e h. ap (λ (x : ℕ). eqb x 1) (edge-rows e))))
        (all_alike (λ p. within (lower d.table p) (upper d.table p) (length (arrivals d c p))) (λ p. within (lower d.table p) (upper d.table p) (seats es.target es.count c p)) (inputs d.table i)
        (λ p h. ap (within (lower d.table p) (upper d.table p)) (arrivals-rows p)))

    pub agrees-rows : (i : ℕ) → i < nodes t → agrees d c i ≡ fits d.table es.edge es.target es.home runs stock es.count c i
    unfolding agrees fits
    agrees-rows i l =
        ap₂ (λ (x y : Bool). x && y)
        (ap (λ (x : Bool). is_action (kind d.table i) && x ⇒ action_agrees d c i) (served-rows i)
        ∙ if_alike (is_action (kind d.table i) && served es.target es.home es.count c i) _ _ (λ h. action_rows i l (rw s.table_is at (and-true (is_action (kind d.table i)) _ h).0)))
        (if_alike (is_buffer (kind d.table i) || is_outgoing (kind d.table i)) _ _
        (λ h. ap₂ (λ (x y : ℕ). leb (x + y) (upper d.table i)) (sym (m.stocks i l (rw s.table_is at (held-kind (kind d.table i) h)))) (arrivals-rows i)))

    pub rule3-rows : rule3 d c ≡ homes t es.edge es.target es.home runs stock es.count c
    unfolding rule3 homes
    rule3-rows =
        lowest-alike (λ i. not (agrees d c i)) (λ i. not (fits d.table es.edge es.target es.home runs stock es.count c i)) (nodes d.table)
        (λ i l. ap not (agrees-rows i (subst (λ (u : List ℕ). i < nodes u) s.table_is l)))
        ∙ ap (λ (u : List ℕ). lowest (λ i. not (fits u es.edge es.target es.home runs stock es.count c i)) (nodes u)) s.table_is
