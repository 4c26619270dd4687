-- What the stages of the step come to: the marking is held that the paper makes of it before it is closed. Assumes nothing.
use mathlib.Core.Path.{◌≡◌, refl, sym, ap, ◌∙◌}
use Prim.Native.Nat.{ℕ, ◌≤◌, ◌<◌}
use native.Mathlib.Omega.{arith}
use mathlib.Core.Bool.{Bool, true, false, not, ◌&&◌, ◌||◌, cond}
use mathlib.Core.List.{List, [], ◌∷◌, ◌++◌}
use mathlib.Core.Option.{Option, none, some}
use lib.Dec.{eqb}
use lib.ListN.{length, drop, length-drop}
use Rattle.paper.specs.Lists.{at, has, below, any, keep, each, gather, one_if}
use Rattle.paper.specs.Limits.{limits}
use Rattle.paper.specs.Answers.{good}
use Rattle.paper.specs.Table.{nodes, kind, out, is_object_node, is_action}
use Rattle.paper.specs.Marking.{Marking}
use Rattle.paper.specs.Offers.{Offer, value as valueOfOffer, belongs, target_of}
use Rattle.paper.specs.Choices.{Board, how_many, end, taken, taken_ends, arrivals, spent, spend, gain}
use Rattle.paper.proofs.Bools.{either_way}
use Rattle.paper.proofs.Counts.{any_same}
use Rattle.paper.proofs.Lengths.{gather-each}
use Rattle.paper.proofs.Tables.{GoodTable, upper_fits}
use Rattle.wire.proofs.Runs.{gather-same}
use Rattle.table.specs.declared.Table.{Table}
use Rattle.table.specs.Reading.{table_read}
use Rattle.table.proofs.Reading.{read-spans, read-good}
use Rattle.offers.specs.Sets.{nth, Marks}
use Rattle.offers.specs.Rows.{value_of}
use Rattle.offers.specs.declared.Offers.{Offers}
use Rattle.ends_masks.specs.declared.Ends.{Ends}
use Rattle.ends_masks.specs.Seating.{Stands, makes}
use Rattle.ends_masks.proofs.Numbers.{any-below-alike}
use Rattle.ends_masks.proofs.Taking.{spent-rows}
use Rattle.ends_masks.proofs.Rules.{target_row, served-rows}
use Rattle.marking_held.specs.MarkingHeld.{Held, MarkingHeld, held_in, held_of}
use Rattle.step_spend.specs.Spending.{spends_row, spends, loses, TokensGone, OldestGone, spent_by}
use Rattle.step_spend.proofs.SpentHeld.{tokens-held, oldest-held}
use Rattle.step_gain.specs.Gains.{brought, coming, Came, gained_by, starts, Started, started_by}
use Rattle.step_gain.proofs.GainedHeld.{gained-held, started_held}

-- ---- a marking said by other words
held-alike : {t old extra : List ℕ} {x : Held} (m m' : Marking) → ((i : ℕ) → is_object_node (kind t i) ≡ true → m.stock i ≡ m'.stock i)
    → ((i : ℕ) → m.runs i ≡ m'.runs i) → ((j : ℕ) → m.tokens j ≡ m'.tokens j) → MarkingHeld t m old extra x → MarkingHeld t m' old extra x
held-alike m m' es er et h = record {
  stocks = λ i l o. rw (sym (es i o)) (h.stocks i l o);
  running = λ i l a. h.running i l a ∙ ap one_if (er i);
  counts = λ j l c. h.counts j l c ∙ et j;
}

-- ---- values gathered
gather-keep : {A B : Type 0} (f : A → List B) (p : A → Bool) (xs : List A) → gather f (keep p xs) ≡ gather (λ x. cond (p x) (f x) []) xs
gather-keep f p [] = refl
gather-keep {A} {B} f p (x ∷ xs) = by (p x) (gather-keep f p xs)
  where
    by : (c : Bool) → gather f (keep p xs) ≡ gather (λ x. cond (p x) (f x) []) xs
        → gather f (cond c (x ∷ keep p xs) (keep p xs)) ≡ cond c (f x) [] ++ gather (λ x. cond (p x) (f x) []) xs
    by true e = ap (λ (l : List B). f x ++ l) e
    by false e = e

-- none or one
abbrev single : Option ℕ → List ℕ
single none = []
single (some v) = v ∷ []

single_brought : (h e : Bool) (x v : ℕ) → cond h (cond e (single (value_of x v)) []) [] ≡ cond ((h && not (eqb x 0)) && e) (v ∷ []) []
single_brought true true x v = by (eqb x 0)
  where
    by : (z : Bool) → single (cond z none (some v)) ≡ cond (not z && true) (v ∷ []) []
    by true = refl
    by false = refl
single_brought true false x v = by (eqb x 0)
  where
    by : (z : Bool) → [] ≡ cond (not z && false) (v ∷ []) []
    by true = refl
    by false = refl
single_brought false e x v = refl

-- ---- a board that stands
module _ (t : List ℕ) (d : Board) (o : Offers) (e : Ends) {runs stock : List ℕ} (c : ℕ) (s : Stands t d o e runs stock) where
  -- ---- what is spent, by the word of the makers
  module _ (w : ℕ) (q : (y : ℕ) → has w y ≡ makes e.makers e.count c y) where
    abbrev spent_now : ℕ → Bool
    spent_now = spends o.last o.parents o.count w

    spent-is : (j : ℕ) → spent_now j ≡ spent d c j
    unfolding spends
    spent-is j =
        sym (spent-rows t d o s.beside s.trees e c s.seated j
        ∙ any-below-alike (λ y. makes e.makers e.count c y && eqb (at o.parents y) 0 && eqb (at o.last y) j)
        (spends_row o.last o.parents w j) o.count
        (λ y l. ap (λ z. z && eqb (at o.parents y) 0 && eqb (at o.last y) j) (sym (q y))))

    loses-is : (i : ℕ) → loses spent_now t i ≡ any (spent d c) (out d.table i)
    loses-is i = any_same spent_now (spent d c) spent-is (out t i) ∙ ap (λ (u : List ℕ). any (spent d c) (out u i)) (sym s.seated.table_is)

    spend-held : {b : List ℕ} {x : Held} (m : Marking) → MarkingHeld t (spent_by spent_now t m) b [] x → MarkingHeld t (spend d c m) b [] x
    unfolding spend
    spend-held m h =
        held-alike (spent_by spent_now t m) (spend d c m) (λ i a. ap (λ z. cond z (drop 1 (m.stock i)) (m.stock i)) (loses-is i)) (λ i. refl)
        (λ j. ap (λ z. cond z 0 (m.tokens j)) (spent-is j)) h

  -- what is left of a stock is no more than its node's upper
  few-left : GoodTable t limits → (i : ℕ) → i < nodes t → length ((spend d c d.current).stock i) ≤ limits.most_upper
  unfolding spend
  few-left g i l =
      let vs = d.current.stock i in
      let f : length vs ≤ limits.most_upper = omega (arith, s.roomy i, upper_fits (g.node i l)) in
      either_way (λ (us : List ℕ). length us ≤ limits.most_upper) (any (spent d c) (out d.table i)) (drop 1 vs) vs (omega (arith, length-drop 1 vs)) f

  -- ---- what is gained, by the word of the taken ends that have a value
  module _ (w : ℕ) (q : Marks (λ k. has c k && not (eqb (at o.has (at e.row k)) 0)) e.count w) where
    abbrev coming_now : ℕ → List ℕ
    coming_now = coming e.target e.row o.value w e.count

    -- what comes to node i
    arriving : (i : ℕ) → gather (λ x. single (valueOfOffer x)) (arrivals d c i) ≡ coming_now i
    unfolding arrivals taken_ends taken coming
    arriving i =
        let p : Offer → Bool = λ x. eqb (target_of d.table x) i in
        let g : Offer → List ℕ = λ x. single (valueOfOffer x) in
        gather-keep g p (each (end d) (keep (has c) (below (how_many d))))
        ∙ gather-each (λ x. cond (p x) (g x) []) (end d) (keep (has c) (below (how_many d)))
        ∙ gather-keep (λ k. cond (p (end d k)) (g (end d k)) []) (has c) (below (how_many d))
        ∙ rw (sym s.seated.number)
        (gather-same (λ k. cond (has c k) (cond (p (end d k)) (g (end d k)) []) []) (brought e.target e.row o.value w i) e.count (λ k l. at-end k l))
      where
        at-end : (k : ℕ) → k < e.count
            → cond (has c k) (cond (eqb (target_of d.table (end d k)) i) (single (valueOfOffer (end d k))) []) []
            ≡ brought e.target e.row o.value w i k
        at-end k l =
            let z = s.seated in
            let y = at e.row k in
            let x : end d k ≡ nth s.trees y = sym (z.ends-are k l) in
            let v : valueOfOffer (nth s.trees y) ≡ value_of (at o.has y) (at o.value y) = sym (z.holds_ts.rows y (z.inside k l)).value-is in
            rw (x, target_row t d o s.beside s.trees e c z k l, v, q.says k l)
            (single_brought (has c k) (eqb (at e.target k) i) (at o.has y) (at o.value y))

    gain-stock : (m : Marking) (i : ℕ) → is_object_node (kind t i) ≡ true → m.stock i ++ coming_now i ≡ (gain d c m).stock i
    unfolding gain
    gain-stock m i a =
        let z : is_object_node (kind d.table i) ≡ true = ap (λ (u : List ℕ). is_object_node (kind u i)) s.seated.table_is ∙ a in
        sym (rw z (ap (λ l. m.stock i ++ l) (arriving i)))

    gain-runs : (m : Marking) (i : ℕ) → m.runs i || starts t e.target e.home e.count c i ≡ (gain d c m).runs i
    unfolding gain starts
    gain-runs m i =
        sym (ap (λ (u : List ℕ). m.runs i || (is_action (kind u i) && any (belongs d.table i) (taken_ends d c))) s.seated.table_is
        ∙ ap (λ z. m.runs i || (is_action (kind t i) && z)) (served-rows t d o s.beside s.trees e c s.seated i))

    gain-held : {b extra : List ℕ} {x : Held} (m : Marking)
        → MarkingHeld t (started_by (starts t e.target e.home e.count c) (gained_by coming_now m)) b extra x → MarkingHeld t (gain d c m) b extra x
    unfolding gain
    gain-held m h =
        held-alike (started_by (starts t e.target e.home e.count c) (gained_by coming_now m)) (gain d c m) (gain-stock m) (gain-runs m) (λ j. refl) h

-- ---- the stages one after the other
-- the word of the makers of taken ends, that of the taken ends with a value, and what each stage makes of its columns
pub record Stages (t : List ℕ) (x : Table) (o : Offers) (e : Ends) (c made bringing : ℕ) (from kept tokens from' kept' place more runs tokens' extra
    : List ℕ) : Type 0 where
  pub makers-are : (y : ℕ) → has made y ≡ makes e.makers e.count c y
  pub valued_are : Marks (λ k. has c k && not (eqb (at o.has (at e.row k)) 0)) e.count bringing
  pub tokens_gone : TokensGone (spends o.last o.parents o.count made) tokens tokens' x.edges
  pub oldest_gone : OldestGone (loses (spends o.last o.parents o.count made) t) from kept from' kept' x.nodes
  pub came : Came (coming e.target e.row o.value bringing e.count) extra place more x.nodes
  pub started : Started (starts t e.target e.home e.count c) kept runs x.nodes

pub stages_held : {t : List ℕ} {x : Table} {o : Offers} {e : Ends} {c made bringing : ℕ} {from kept tokens from' kept' place more runs tokens' extra : List ℕ}
    → Stages t x o e c made bringing from kept tokens from' kept' place more runs tokens' extra → table_read t ≡ good x → (d : Board) → Stands t d o e kept kept
    → {b : List ℕ} → length b < 65536 → MarkingHeld t d.current b [] (held_of from kept tokens)
    → MarkingHeld t (gain d c (spend d c d.current)) b extra (held_in from' kept' place more runs tokens')
stages_held {t} {o = o} {e} {c} {made} {bringing} g read d s short h =
    let z = read-spans t read in
    let p = spends o.last o.parents o.count made in
    let left = spend-held t d o e c s made g.makers-are d.current
    (oldest-held p t g.oldest_gone z.nodes-read short (tokens-held p g.tokens_gone z.edges-read h)) in
    let came = gained-held e.target e.row o.value bringing e.count s.seated.few g.came z.nodes-read
    (few-left t d o e c s (read-good t read)) left in
    gain-held t d o e c s bringing g.valued_are (spend d c d.current)
    (started_held (starts t e.target e.home e.count c) g.started z.nodes-read came)
