-- First offers: what begins on an edge is what the definition says of a marking whose stock and count it was read from. Assumes nothing.
use Prim.Native.Nat.{ℕ, zero, suc, ◌+◌, ◌*◌, ◌^◌, ◌≤◌, ◌<◌}
use mathlib.Core.Path.{◌≡◌, refl, sym, subst, ◌∙◌}
use mathlib.Core.Bool.{Bool, true, false, ◌||◌, cond}
use mathlib.Core.List.{List, [], ◌∷◌}
use native.Mathlib.Omega.{arith}
use lib.Dec.{leb, eqb}
use lib.ListN.{length}
use borrow.Author.Tests.{le-leb, lt-leb, leb-true, ne_eqb}
use Rattle.paper.specs.Answers.{good}
use Rattle.paper.specs.Lists.{within, ◌⇒◌}
use Rattle.paper.specs.Bytes.{word_at}
use Rattle.paper.specs.Table.{edges, kind, source, is_object, is_object_node, is_control_node, may_leave}
use Rattle.paper.specs.Marking.{Marking, Good, counted}
use Rattle.paper.specs.Offers.{firsts}
use Rattle.paper.proofs.Bools.{and-true, and_never, if_true}
use Rattle.paper.proofs.Lists.{all-below}
use Rattle.paper.proofs.Bytes.{four_back}
use Rattle.paper.proofs.Lengths.{drop-four}
use Rattle.table.specs.declared.Table.{Table}
use Rattle.table.specs.Reading.{table_read}
use Rattle.table.proofs.Reading.{read-good, read-spans}
use Rattle.marking.specs.Values.{ValuesNoted}
use Rattle.marking.proofs.Laws.{counted_by_kind}
use Rattle.offers_over.specs.Over.{begun_on}
use Rattle.offers_over.specs.declared.Start.{Start}
use Rattle.offers_over.specs.declared.Start.TheVariants.{Nothing, Token, Value}
use Rattle.offers_first.specs.Starts.{start, FirstOffer}

-- ---- the start
module _ (k kept tokens v : ℕ) where
  pub start_stocked : is_object_node k ≡ true → start k kept tokens v ≡ cond (eqb kept 0) Nothing (Value v)
  unfolding start
  start_stocked h = rw h

  pub start_counted : is_object_node k ≡ false → start k kept tokens v ≡ cond (eqb tokens 0) Nothing Token
  unfolding start
  start_counted h = rw h

-- ---- edges of a good table that leave no control node
-- edges leave control nodes, object nodes, initial nodes and actions
leaves : (o : Bool) (k : ℕ) → k ≤ 13 → may_leave o k ≡ true → (is_control_node k || is_object_node k || within 1 2 k) ≡ true
leaves true k l h = if_true (may_leave true k) _ (all-below (λ k. may_leave true k ⇒ (is_control_node k || is_object_node k || within 1 2 k)) 14 refl k (omega arith)) h
leaves false k l h = if_true (may_leave false k) _ (all-below (λ k. may_leave false k ⇒ (is_control_node k || is_object_node k || within 1 2 k)) 14 refl k (omega arith)) h

module _ (t : List ℕ) {x : Table} (h : table_read t ≡ good x) (e : ℕ) (l : e < edges t) where
  by_kind : within 1 2 (kind t (source t e)) ≡ counted t e
  by_kind = counted_by_kind t h e (omega (arith, (read-spans t h).edges-read))

  -- they have a count exactly if they leave no object node
  object_uncounted : is_object_node (kind t (source t e)) ≡ true → counted t e ≡ false
  object_uncounted o =
      let k = kind t (source t e) in
      let a : 3 ≤ k = leb-true 3 k (and-true (leb 3 k) (leb k 7) o).0 in
      sym by_kind ∙ rw (lt-leb k 2 (omega arith)) (and_never (leb 1 k))

  other_counted : is_control_node (kind t (source t e)) ≡ false → is_object_node (kind t (source t e)) ≡ false → counted t e ≡ true
  other_counted c o =
      let f = (read-good t h).edge e l in
      sym by_kind ∙ rw (c, o) at (leaves (is_object t e) (kind t (source t e)) ((read-good t h).node (source t e) f.source_fits).kind_to f.may_leave_is)

-- ---- the oldest value, in the bytes
four_heads : {a b c d x y z w : ℕ} {xs ys : List ℕ} → a ∷ b ∷ c ∷ d ∷ xs ≡ x ∷ y ∷ z ∷ w ∷ ys → (a ≡ x) × (b ≡ y) × (c ≡ z) × (d ≡ w)
four_heads h = (cc h, cc h, cc h, cc h)

oldest-is : (b : List ℕ) (v : ℕ) (vs : List ℕ) (p n : ℕ) → v < 2 ^ 32 → ValuesNoted b (v ∷ vs) p n → (p + 4 ≤ length b) × (word_at b p ≡ v)
oldest-is b v vs p n small h =
    let l : n ≡ suc (length vs) = h.many in
    let room : p + 4 ≤ length b = omega (arith, h.inside) in
    let q : 4 * n ≡ suc (suc (suc (suc (4 * length vs)))) = omega arith in
    let s = rw (q, drop-four b p room) at h.stand in
    let r = four_heads s in
    (room, rw (← r.0, ← r.1, ← r.2, ← r.3) (four_back v small))

-- ---- the first offer on an edge, from the stock of its source or from its count
module _ (t b : List ℕ) {x : Table} (h : table_read t ≡ good x) (m : Marking) (ok : Good t m) (e : ℕ) (l : e < edges t) (from kept tokens : ℕ) (s : Start)
    (g : FirstOffer b (kind t (source t e)) from kept tokens s) where
  abbrev Starts : Type 0
  Starts = firsts t m e ≡ begun_on e s

  abbrev k : ℕ
  k = kind t (source t e)

  from-stock : is_object_node k ≡ true → ValuesNoted b (m.stock (source t e)) from kept → Starts
  unfolding firsts
  from-stock o n = by (m.stock (source t e)) refl
    where
      by : (vs : List ℕ) → m.stock (source t e) ≡ vs → Starts
      by [] z = rw (object_uncounted t h e l o, o, z, g.start_is ∙ start_stocked k kept tokens g.oldest o, n.many, z)
      by (v ∷ vs) z =
          let small : v < 2 ^ 32 = rw z at (ok.values (source t e) 0) in
          let w = oldest-is b v vs from kept small (subst (λ (xs : List ℕ). ValuesNoted b xs from kept) z n) in
          rw (object_uncounted t h e l o, o, z, g.start_is ∙ start_stocked k kept tokens g.oldest o, n.many, z, g.value-is w.0 ∙ w.1, ne_eqb (length (v ∷ vs)) 0 (λ x. omega (arith, x)))

  from-count : is_control_node k ≡ false → is_object_node k ≡ false → tokens ≡ m.tokens e → Starts
  unfolding firsts
  from-count c o n = by (m.tokens e) refl
    where
      by : (i : ℕ) → m.tokens e ≡ i → Starts
      by zero z = rw (other_counted t h e l c o, z, g.start_is ∙ start_counted k kept tokens g.oldest o, n ∙ z)
      by (suc i) z = rw (other_counted t h e l c o, z, g.start_is ∙ start_counted k kept tokens g.oldest o, n ∙ z, le-leb 1 (suc i) (omega arith), ne_eqb (suc i) 0 (λ x. omega (arith, x)))

  pub starts-are : is_control_node (kind t (source t e)) ≡ false → (is_object_node (kind t (source t e)) ≡ true → ValuesNoted b (m.stock (source t e)) from kept)
      → (counted t e ≡ true → tokens ≡ m.tokens e) → firsts t m e ≡ begun_on e s
  starts-are c stock count = by (is_object_node k) refl
    where
      by : (o : Bool) → is_object_node k ≡ o → Starts
      by true o = from-stock o (stock o)
      by false o = from-count c o (count (other_counted t h e l c o))
