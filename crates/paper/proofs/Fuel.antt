-- "So .. a path has at most 16 edges": 16 is enough fuel on a good table, and no path is longer than the fuel. Assumes nothing.
use mathlib.Core.Path.{◌≡◌, refl, ap, ◌∙◌}
use Prim.Native.Nat.{ℕ, zero, suc, ◌+◌, ◌≤◌, ◌<◌}
use native.Mathlib.Nat.{add-suc, add-zero}
use native.Mathlib.Omega.{arith}
use mathlib.Core.Bool.{Bool, true, false}
use mathlib.Core.Logic.{⊎_elim}
use mathlib.Core.List.{List, [], ◌∷◌}
use mathlib.Core.Option.{Option}
use lib.ListN.{length, length-append}
use Rattle.paper.specs.Lists.{each, keep}
use Rattle.paper.specs.Limits.{limits}
use Rattle.paper.specs.Answers.{good}
use Rattle.paper.specs.Table.{edges, chain, kind, source, into, is_control_node, table_fine}
use Rattle.paper.specs.Marking.{Marking}
use Rattle.paper.specs.Offers.{Offer, over, elem, value, paths, handed, offers_on, offers}
use Rattle.paper.proofs.Bools.{and-true, and_both, and-false, false_if, never}
use Rattle.paper.proofs.Members.{In, in_one, in_keep, keep_in, any_in, in_any, each_same}
use Rattle.paper.proofs.Lengths.{gather-each}
use Rattle.paper.proofs.Origins.{Handed, starts, extends, joins, way_from, handed_view, handed_in, on_none, on_view, in_offers}
use Rattle.paper.proofs.Paths.{in_over, with-paths}
use Rattle.paper.proofs.Sameness.{elem_in}
use Rattle.paper.proofs.Tables.{table-good, source_no_chain}

-- ---- chains
-- a chain has shorter ones in it, with the same end
pub chain_shorter : (t : List ℕ) (k i : ℕ) → chain t (suc k) i ≡ true → chain t k i ≡ true
unfolding chain
chain_shorter t zero i h = refl
chain_shorter t (suc zero) i h = (and-true (is_control_node (kind t i)) _ h).0
chain_shorter t (suc (suc k)) i h =
    let r = and-true (is_control_node (kind t i)) _ h in
    let s = any_in (λ j. chain t (suc (suc k)) (source t j)) (into t i) r.1 in
    and_both _ _ r.0 (in_any (λ j. chain t (suc k) (source t j)) s.1 (chain_shorter t (suc k) (source t s.0) s.2))

-- one more control node at its end
pub chain_longer : (t : List ℕ) (k i j : ℕ) → is_control_node (kind t i) ≡ true → In j (into t i) → chain t k (source t j) ≡ true → chain t (suc k) i ≡ true
unfolding chain
chain_longer t zero i j c m h = c
chain_longer t (suc k) i j c m h = and_both _ _ c (in_any (λ j. chain t (suc k) (source t j)) m h)

-- where no chain of n ends, no longer one does
pub no_longer : (t : List ℕ) (n k i : ℕ) → chain t n i ≡ false → chain t (n + k) i ≡ false
no_longer t n zero i h = rw (add-zero n) h
no_longer t n (suc k) i h =
    rw (add-suc n k) (false_if _ (λ e. never _ (chain_shorter t (n + k) i e) (no_longer t n k i h)))

-- ---- what is handed on depends only on the offers on the incoming edges
module _ (t : List ℕ) (m : Marking) (e : ℕ) (f g : ℕ → List Offer) where
  pub handed-each : each f (into t (source t e)) ≡ each g (into t (source t e)) → handed t m f e ≡ handed t m g e
  unfolding handed
  handed-each h = rw (← gather-each (λ x. x) f (into t (source t e)), ← gather-each (λ x. x) g (into t (source t e)), h)

  pub handed-first : is_control_node (kind t (source t e)) ≡ false → handed t m f e ≡ handed t m g e
  unfolding handed
  handed-first h = rw h

module _ (t : List ℕ) (goes : ℕ → Option ℕ → Bool) (m : Marking) where
  -- where no chain of n control nodes ends at an edge's source, more fuel than n changes nothing
  stable_once : (n e : ℕ) → chain t n (source t e) ≡ false → offers_on t goes m n e ≡ offers_on t goes m (suc n) e
  unfolding chain offers_on
  stable_once zero e h = never true refl h
  stable_once (suc zero) e h = ap (keep (λ o. goes e (value o))) (handed-first t m e _ _ h)
  stable_once (suc (suc n)) e h =
      ap (keep (λ o. goes e (value o)))
      (⊎_elim (handed-first t m e (offers_on t goes m (suc n)) (offers_on t goes m (suc (suc n))))
      (λ b. handed-each t m e (offers_on t goes m (suc n)) (offers_on t goes m (suc (suc n))) (each_same _ _ (λ j. chain t (suc n) (source t j)) (stable_once (suc n)) (into t (source t e)) b))
      (and-false (is_control_node (kind t (source t e))) _ h))

  pub stable : (n k e : ℕ) → chain t n (source t e) ≡ false → offers_on t goes m n e ≡ offers_on t goes m (n + k) e
  stable n zero e h = rw (add-zero n)
  stable n (suc k) e h = stable n k e h ∙ rw (add-suc n k) (stable_once (n + k) e (no_longer t n k (source t e) h))

  -- 16 is enough
  pub enough : table_fine t limits ≡ good tt → (e : ℕ) → e < edges t → (k : ℕ)
      → offers_on t goes m limits.longest_path e ≡ offers_on t goes m (limits.longest_path + k) e
  enough g e l k = stable limits.longest_path k e (source_no_chain (table-good t limits g) e l)

  -- so the offers on an edge are what its source hands on of the offers on the others
  pub on_open : table_fine t limits ≡ good tt → (e : ℕ) → e < edges t
      → offers_on t goes m limits.longest_path e ≡ keep (λ o. goes e (value o)) (handed t m (offers_on t goes m limits.longest_path) e)
  unfolding offers_on
  on_open g e l = enough g e l 1

  -- the paper's rules, each way: an offer is on an edge exactly if it starts there, is extended or is joined, and goes over it
  pub on-rules : table_fine t limits ≡ good tt → (e : ℕ) → e < edges t → {o : Offer} → In o (offers_on t goes m limits.longest_path e)
      → Handed t m (offers_on t goes m limits.longest_path) e o × (goes e (value o) ≡ true)
  on-rules g e l k =
      let r = in_keep (λ o. goes e (value o)) (handed t m (offers_on t goes m limits.longest_path) e) (rw (on_open g e l) at k) in
      (handed_view t m (offers_on t goes m limits.longest_path) e r.0, r.1)

  pub rules-on : table_fine t limits ≡ good tt → (e : ℕ) → e < edges t → {o : Offer} → Handed t m (offers_on t goes m limits.longest_path) e o → goes e (value o) ≡ true
      → In o (offers_on t goes m limits.longest_path e)
  rules-on g e l h k = rw (on_open g e l) (keep_in (λ o. goes e (value o)) (handed_in t m (offers_on t goes m limits.longest_path) e h) k)

  -- ---- no path has more edges than there is fuel
  pub path-short : (n e : ℕ) {o : Offer} {q : List ℕ} → In o (offers_on t goes m n e) → In q (paths o) → length q ≤ n
  unfolding paths
  path-short zero e k i = absurd (on_none t goes m e k)
  path-short (suc n) e {o} {q} k i = by (on_view t goes m n e k) i (λ j p r a b. path-short n j a b)
    where
      longer : (o : Offer) → In q (paths (over o e)) → ((r : List ℕ) → In r (paths o) → length r ≤ n) → length q ≤ suc n
      longer o i h =
          let r = in_over o e i in
          let s = h r.0 r.1 in
          omega (arith, ap length r.2, length-append r.0 (e ∷ []))

      by : {o : Offer} → Handed t m (offers_on t goes m n) e o → In q (paths o) → ((j : ℕ) (p : Offer) (r : List ℕ) → In p (offers_on t goes m n j) → In r (paths p) → length r ≤ n) → length q ≤ suc n
      by (starts c f) i ih = omega (arith, ap length (in_one i))
      by (extends {j = j} {o = o} c d k l) i ih = longer o i (λ r b. ih j o r l b)
      by (joins {w = w} c d y) i ih =
          longer w i (λ r b. let s = way_from t (offers_on t goes m n) paths with-paths y b in ih s.0 s.1 r s.3 s.4)

  pub path-at_most : (o : Offer) (q : List ℕ) → elem o (offers t goes m) ≡ true → In q (paths o) → length q ≤ limits.longest_path
  path-at_most o q k i = let r = in_offers t goes m (elem_in (offers t goes m) k) in path-short limits.longest_path r.0 r.2 i
