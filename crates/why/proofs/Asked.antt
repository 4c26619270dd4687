-- What is asked of the net is what the paper's levels ask on the board, and the answers, level by level, are the reason. Assumes nothing.
use mathlib.Core.Path.{◌≡◌, refl, sym, ap, ap₂, subst, ◌∙◌}
use mathlib.Core.Bool.{Bool, true, false, not, ◌&&◌, ◌||◌, and_comm}
use mathlib.Core.List.{List, [], ◌∷◌, ◌++◌}
use mathlib.Core.Option.{none}
use Prim.Native.Nat.{ℕ, zero, suc, ◌+◌, ◌^◌, ◌≤◌, ◌<◌}
use native.Mathlib.Omega.{arith}
use lib.Dec.{leb}
use lib.ListN.{length, set, drop}
use borrow.Author.Tests.{ne_eqb}
use Rattle.paper.specs.Lists.{at, any, below}
use Rattle.paper.specs.Limits.{limits}
use Rattle.paper.specs.Answers.{good, judged_by, is_good}
use Rattle.paper.specs.Table.{nodes}
use Rattle.paper.specs.Offers.{Offer, first, last_edge, belongs}
use Rattle.paper.specs.Choices.{Board, how_many, end, taken_ends, rule1, rule2, agrees, FirstOf}
use Rattle.paper.specs.Operations.{named, wanted, own_of, levels, left, SomeLeft, NoneLeft, FirstEmpty, Reason, WhyIf, packed, in_room, Reply, Leaves}
use Rattle.paper.proofs.Bools.{never}
use Rattle.paper.proofs.Calls.{reply-full}
use Rattle.paper.proofs.Lengths.{each_below}
use Rattle.paper.proofs.Levels.{first_next}
use Rattle.paper.proofs.Members.{In, in_each, in_below}
use Rattle.paper.proofs.Reasons.{EndsInside, own_inside, last-level, missing_first}
use Rattle.paper.proofs.Tables.{GoodTable, table-good}
use Rattle.offers.specs.declared.Offers.{Offers}
use Rattle.std.specs.Prelude.{Option, Some, None, is_some}
use Rattle.pick_bounds.specs.Net.{held}
use Rattle.pick_bounds.specs.declared.Wanted.{Wanted}
use Rattle.ends_masks.specs.Seating.{Stands, served, fits, destinations_fit, no_rivals, forks_whole}
use Rattle.ends_masks.specs.declared.Ends.{Ends}
use Rattle.ends_masks.proofs.Rules.{served-rows, agrees-rows}
use Rattle.ends_masks.proofs.Allowed.{passes1, passes2}
use Rattle.pick_rules.specs.Rules.{holds}
use Rattle.pick_rules.proofs.Picking.{roomy}
use Rattle.pick.specs.Picking.{Answered}
use Rattle.pick.proofs.Laws.{answered_same}
use Rattle.why.specs.Reasons.{asks, OwnEnds, Whether}
use Rattle.why.proofs.Own.{own_no_pin, own_destinations}

-- ---- a level on the board
module _ {t : List ℕ} {d : Board} {o : Offers} {es : Ends} {runs stock : List ℕ} (s : Stands t d o es runs stock)
    (node : ℕ) (there : node < nodes t) (es' : Ends) (w : OwnEnds es (own_of t node) es') where
  abbrev g : GoodTable t limits
  g = table-good t limits s.told.table-fine

  abbrev own : ℕ
  own = own_of t node

  abbrev asked : List (ℕ → Bool)
  asked = asks t o es' runs stock

  abbrev taken : ℕ → Bool
  taken c = served es.target es.home es.count c node

  is-named : named node ≡ true
  is-named = ap not (ne_eqb node 255 (λ e. absurd (omega (arith, g.frame.nodes_fit))))

  module _ (c : ℕ) where
    taken-end : any (belongs d.table node) (taken_ends d c) ≡ taken c
    taken-end = served-rows t d o s.beside s.trees es c s.seated node

    own_rule : agrees d c (own_of d.table node) ≡ destinations_fit t es'.edge es'.target es'.home runs stock es'.count c
    own_rule =
        rw (w.edges_stay, w.count_stays)
        (ap (λ (u : List ℕ). agrees d c (own_of u node)) s.seated.table_is
        ∙ agrees-rows t d o s.beside s.trees es c s.seated runs stock s.told own (own_inside t g node there)
        ∙ ap (λ (u : List ℕ). fits u es.edge es.target es.home runs stock es.count c own) s.seated.table_is
        ∙ sym
        (own_destinations t es.edge es.target es.home es.count s.seated.homes-are
        g own (own_inside t g node there) (own_no_pin t g node there) es'.target es'.home w.targets_own w.homes_own runs stock c (roomy s)))

    rivals-rule : is_good (judged_by ((10, rule1 d) ∷ []) c) ≡ no_rivals es'.foes es'.makers es'.count c
    rivals-rule = rw (w.foes_stay, w.makers_stay, w.count_stays) (passes1 t d o s.beside s.trees es c s.seated runs stock s.told)

    forks-rule : is_good (judged_by ((11, rule2 d) ∷ []) c) ≡ forks_whole t o.node o.parents es'.makers o.count es'.count c
    forks-rule = rw (w.makers_stay, w.count_stays) (passes2 t d o s.beside s.trees es c s.seated runs stock s.told)

    level-rows : (q : ℕ) → q ≤ 3 → left (levels d node) (suc q) c ≡ taken c && left asked q c
    unfolding left levels
    level-rows zero l = ap (λ (x : Bool). x && true) taken-end
    level-rows (suc zero) l = ap₂ (λ (x y : Bool). x && (y && true)) taken-end own_rule
    level-rows (suc (suc zero)) l = ap₂ (λ (x y : Bool). x && y) taken-end (ap₂ (λ (x y : Bool). x && (y && true)) own_rule rivals-rule)
    level-rows (suc (suc (suc zero))) l =
        ap₂ (λ (x y : Bool). x && y) taken-end (ap₂ (λ (x y : Bool). x && y) own_rule (ap₂ (λ (x y : Bool). x && (y && true)) rivals-rule forks-rule))
    level-rows (suc (suc (suc (suc q)))) l = absurd (omega arith)

  -- a net that says what the first levels past taking an end ask, with what is wanted for the node
  pub level_sought : (net : List ℕ) (count q : ℕ) (want : Wanted) → q ≤ 3 → ((c : ℕ) → holds net count es'.count c ≡ left asked q c)
      → ((c : ℕ) → leb want.least (held es.count c want.ends) ≡ not (named node) || taken c)
      → (c : ℕ) → holds net count es.count c && leb want.least (held es.count c want.ends) ≡ left (levels d node) (suc q) c
  level_sought net count q want l h v c =
      ap₂ (λ (a b : Bool). a && b) (ap (λ (n : ℕ). holds net count n c) (sym w.count_stays) ∙ h c) (v c ∙ ap (λ (b : Bool). not b || taken c) is-named)
      ∙ and_comm (left asked q c) (taken c) ∙ sym (level-rows c q l)

-- ---- what the search answers of a level
module _ (asked : List (ℕ → Bool)) (m k : ℕ) (f : Option ℕ) (a : Answered (left asked k) m f) where
  pub some-found : (c : ℕ) → f ≡ Some c → SomeLeft asked m k
  unfolding Answered
  some-found c q = let r : FirstOf (left asked k) m c = rw q at a in (c, r.is_set, r.passes)

  pub none_found : f ≡ None → NoneLeft asked m k
  unfolding Answered
  none_found q = let r : (x : ℕ) → x < 2 ^ m → left asked k x ≡ false = rw q at a in r

pub whether-found : (asked : List (ℕ → Bool)) (m k : ℕ) (f : Option ℕ) → Answered (left asked k) m f → (t : Bool) → t ≡ is_some f → Whether asked m k t
whether-found asked m k (Some c) a t e = rw e (some-found asked m k (Some c) a c refl)
whether-found asked m k None a t e = rw e (none_found asked m k None a refl)

-- a test that says what the level does
pub level_answered : (asked : List (ℕ → Bool)) (n m k : ℕ) → n ≡ m → (p : ℕ → Bool) → ((c : ℕ) → p c ≡ left asked k c) → (f : Option ℕ) → Answered p n f → Answered (left asked k) m f
level_answered asked n m k e p h f a = subst (λ (x : ℕ). Answered (left asked k) x f) e (answered_same p (left asked k) n h f a)

-- ---- the reason, of what the levels answered
pub none-named_0 : (d : Board) (n : ℕ) → n ≡ 255 → Reason d n 0
none-named_0 d n e = record { none_named = λ q. refl; is_first_empty = λ q. never (named n) q (ap named e) }

-- the ends' last edges are the table's
ends-inside : {t : List ℕ} {d : Board} {o : Offers} {es : Ends} {runs stock : List ℕ} → Stands t d o es runs stock → EndsInside d
ends-inside {t} {d} {o} {es} st x m =
    let s = st.seated in
    let r = in_each (end d) (below (how_many d)) (subst (λ (xs : List Offer). In x xs) (sym (each_below (first 0 none) (end d) d.all_ends (λ k l. refl))) m) in
    let k = r.0 in
    let l : k < es.count = omega (arith, in_below (how_many d) r.1, s.number) in
    let e : last_edge x ≡ at es.edge k =
    ap last_edge (r.2 ∙ sym (s.ends-are k l)) ∙ sym (s.holds_ts.rows (at es.row k) (s.inside k l)).last-is ∙ sym (s.edges_are k l) in
    rw (s.table_is, e) (s.edges-inside k l)

module _ {t : List ℕ} {d : Board} {o : Offers} {es : Ends} {runs stock : List ℕ} (s : Stands t d o es runs stock) (node : ℕ) (named-one : node ≡ 255 → ⊥) where
  the_table : GoodTable d.table limits
  the_table = rw s.seated.table_is (table-good t limits s.told.table-fine)

  is_one : named node ≡ true
  is_one = ap not (ne_eqb node 255 named-one)

  pub named_reason : (r : ℕ) → FirstEmpty (levels d node) (how_many d) r → Reason d node r
  named_reason r f = record { none_named = λ q. never (named node) is_one q; is_first_empty = λ q. f }

  pub missing_1 : nodes t ≤ node → Reason d node 1
  missing_1 l = named_reason 1 (missing_first d the_table (ends-inside s) node (rw s.seated.table_is l))

  -- the last level is what pick wants
  pub last_answered : (k : ℕ) → k ≤ 4 → 3 < k → (f : Option ℕ) → Answered (wanted d node) (how_many d) f → Answered (left (levels d node) (suc k)) (how_many d) f
  unfolding levels
  last_answered k l g f a =
      let e : k ≡ 4 = omega arith in
      rw e (answered_same (wanted d node) (left (levels d node) 5) (how_many d) (λ c. sym (last-level d the_table (ends-inside s) node is_one c)) f a)

-- ---- level by level
pub climbed_empty : (asked : List (ℕ → Bool)) (m k : ℕ) → SomeLeft asked m k → NoneLeft asked m (suc k) → (r : ℕ) → r ≡ k + 1 → FirstEmpty asked m r
climbed_empty asked m k s n zero e = absurd (omega arith)
climbed_empty asked m k s n (suc r) e = let f : k ≡ r = omega arith in subst (λ (x : ℕ). FirstEmpty asked m (suc x)) f (first_next asked m k s n)

pub climbed_all : (d : Board) (node k : ℕ) → k ≡ 5 → SomeLeft (levels d node) (how_many d) k → FirstEmpty (levels d node) (how_many d) 0
unfolding levels
climbed_all d node k e s = rw e at s

-- ---- the byte written
pub told-one : (out : List ℕ) (byte : ℕ) → 1 ≤ length out → Reply (in_room (length out) (good (byte ∷ []))) (packed 0 0 1) out (set out 0 byte)
told-one out byte l = reply-full (byte ∷ []) out (set out 0 byte) 1 (packed 0 0 1) refl l refl (by out l)
  where
    by : (out : List ℕ) → 1 ≤ length out → set out 0 byte ≡ (byte ∷ []) ++ drop 1 out
    by [] l = absurd (omega arith)
    by (x ∷ xs) l = refl

pub why_leaves : (d : Board) (node r word : ℕ) (out after : List ℕ) → Reason d node r → Reply (in_room (length out) (good (r ∷ []))) word out after → Leaves (WhyIf (good d) node) word out after
why_leaves d node r word out after f h = record { answer = good (r ∷ []); allowed = (r, f, refl); reply = h }
