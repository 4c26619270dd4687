-- Ends: their list is the offers whose target is no control node, each once, rising in the paper's order. Assumes nothing.
use mathlib.Core.Path.{◌≡◌, sym, ◌∙◌}
use Prim.Native.Nat.{Ordering}
use Prim.Native.Nat.{ℕ, compare}
use mathlib.Core.Bool.{Bool, true, ◌&&◌}
use mathlib.Core.List.{List}
use mathlib.Core.Option.{Option}
use lib.ListN.{length}
use Rattle.paper.specs.Lists.{keep}
use Rattle.paper.specs.Marking.{Marking}
use Rattle.paper.specs.Offers.{Offer, elem, last_edge, paths, offers, is_end, target_of, lex, sorted_paths, end_order, ends}
use Rattle.paper.proofs.Bools.{and-true, and_both, iff}
use Rattle.paper.proofs.Members.{In, in_keep, keep_in, Distinct, distinct-keep}
use Rattle.paper.proofs.Sameness.{elem_in, in_elem, distinct-offers}
use Rattle.paper.proofs.Paths.{Within, determined}
use Rattle.paper.proofs.Orders.{Lawful, compare_lawful, compare_exact, lex_lawful, lex_exact, pair_lawful, then_eq, sort-length, sort_in, in_sort, sort-distinct, sort_sorts, sorted_rises, Rising, rising_unique}

-- ---- the order of ends
pub ends_lawful : (t : List ℕ) → Lawful (end_order t)
unfolding end_order
ends_lawful t =
    pair_lawful compare_lawful (pair_lawful compare_lawful (lex_lawful (lex_lawful compare_lawful)) last_edge sorted_paths) (target_of t) (λ o. o)

-- offers that are alike in it have the same last edge and the same paths
module _ (t : List ℕ) (o p : Offer) (h : end_order t o p ≡ Ordering.eq) where
  alike-parts : (last_edge o ≡ last_edge p) × (sorted_paths o ≡ sorted_paths p)
  unfolding end_order
  alike-parts =
      let q = then_eq (compare (target_of t o) (target_of t p)) _ h in
      let r = then_eq (compare (last_edge o) (last_edge p)) (lex (lex compare) (sorted_paths o) (sorted_paths p)) q.1 in
      (compare_exact _ _ r.0, lex_exact (lex_exact compare_exact) (sorted_paths o) (sorted_paths p) r.1)

  pub alike-last : last_edge o ≡ last_edge p
  alike-last = alike-parts.0

  pub alike-paths : Within o p
  unfolding sorted_paths
  alike-paths q k = let e = alike-parts.1 in in_sort (lex compare) (paths p) (rw e at (sort_in (lex compare) (paths o) k))

-- ---- any list of offers
module _ (t : List ℕ) (os : List Offer) where
  pub in_ends : {o : Offer} → In o (ends t os) → In o os × (is_end t o ≡ true)
  unfolding ends
  in_ends k = in_keep (is_end t) os (in_sort (end_order t) (keep (is_end t) os) k)

  pub ends_in : {o : Offer} → In o os → is_end t o ≡ true → In o (ends t os)
  unfolding ends
  ends_in k h = sort_in (end_order t) (keep (is_end t) os) (keep_in (is_end t) k h)

  -- exactly the offers whose target is no control node
  pub ends-are : (o : Offer) → elem o (ends t os) ≡ elem o os && is_end t o
  ends-are o =
      iff _ _ (λ h. let r = in_ends (elem_in (ends t os) h) in and_both _ _ (in_elem r.0) r.1)
      (λ h. let r = and-true (elem o os) _ h in in_elem (ends_in (elem_in os r.0) r.1))

  pub ends-length : length (ends t os) ≡ length (keep (is_end t) os)
  unfolding ends
  ends-length = sort-length (end_order t) (keep (is_end t) os)

-- ---- the ends of a table
module _ (t : List ℕ) (goes : ℕ → Option ℕ → Bool) (m : Marking) where
  -- two offers that are alike in the order are one
  pub alike-offers : (o p : Offer) → elem o (offers t goes m) ≡ true → elem p (offers t goes m) ≡ true → end_order t o p ≡ Ordering.eq → o ≡ p
  alike-offers o p k l h = determined t goes m o p k l (alike-last t o p h) (alike-paths t o p h)

  pub alike-ends : (o p : Offer) → In o (ends t (offers t goes m)) → In p (ends t (offers t goes m)) → end_order t o p ≡ Ordering.eq → o ≡ p
  alike-ends o p k l h = alike-offers o p (in_elem (in_ends t (offers t goes m) k).0) (in_elem (in_ends t (offers t goes m) l).0) h

  pub ends-once : Distinct (ends t (offers t goes m))
  unfolding ends
  ends-once = sort-distinct (end_order t) (keep (is_end t) (offers t goes m)) (distinct-keep (is_end t) (offers t goes m) (distinct-offers t goes m))

  -- "Order of ends": each comes before every later one
  pub ends_rise : Rising (end_order t) (ends t (offers t goes m))
  unfolding ends
  ends_rise = sorted_rises (end_order t) (ends t (offers t goes m)) alike-ends ends-once (sort_sorts (ends_lawful t) (keep (is_end t) (offers t goes m)))

  -- and no other list has the same offers in that order
  pub ends_unique : (os : List Offer) → Rising (end_order t) os → ((o : Offer) → elem o os ≡ elem o (offers t goes m) && is_end t o) → os ≡ ends t (offers t goes m)
  ends_unique os r h =
      rising_unique (ends_lawful t) os (ends t (offers t goes m)) r ends_rise
      (λ o k. elem_in (ends t (offers t goes m)) (ends-are t (offers t goes m) o ∙ sym (h o) ∙ in_elem k))
      (λ o k. elem_in os (h o ∙ sym (ends-are t (offers t goes m) o) ∙ in_elem k))
