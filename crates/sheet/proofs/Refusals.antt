-- A board is refused with a number from 1 on and a place that its packed word has room for. Assumes nothing.
use mathlib.Core.Path.{◌≡◌, refl, sym}
use Prim.Native.Nat.{ℕ, suc, ◌≤◌, ◌<◌}
use native.Mathlib.Omega.{arith}
use mathlib.Core.Bool.{Bool, true, false, not}
use mathlib.Core.List.{List}
use mathlib.Core.Option.{Option, none, some}
use Rattle.paper.specs.Lists.{lowest}
use Rattle.paper.specs.Answers.{Answer, refused, good, ◌>>=◌, refuse_if, need, known}
use Rattle.paper.specs.Limits.{limits}
use Rattle.paper.specs.Table.{nodes, edges, frame_fine, node_fine, edge_fine, shape_fine, table_fine}
use Rattle.paper.specs.Marking.{marking}
use Rattle.paper.specs.Offers.{guards_fine, bounds_fine, Terms, goes_over, offers, sizes_fine}
use Rattle.paper.specs.Choices.{board_of, board}
use Rattle.paper.proofs.Ladders.{no_good}
use Rattle.paper.proofs.Lists.{lowest-is}
use Rattle.paper.proofs.Tables.{Frame, frame_facts}

abbrev pub Plain : {A : Type 0} → Answer A → Type 0
Plain a = (n p : ℕ) → a ≡ refused n p → (1 ≤ n) × (p < 65536)

module _ {A : Type 0} where
  plain_good : (a : A) → Plain (good a)
  plain_good a n p e = no_good (sym e)

  plain_refused : (k q : ℕ) → 1 ≤ k → q < 65536 → Plain {A = A} (refused k q)
  plain_refused k q l m n p e =
      let u : k ≡ n = cc in
      let v : q ≡ p = cc in
      (omega arith, omega arith)

  plain_on : {B : Type 0} (r : Answer B) (f : B → Answer A) → Plain r → ((x : B) → r ≡ good x → Plain (f x)) → Plain (r >>= f)
  plain_on (refused k q) f h g n p e = plain_refused k q (h k q refl).0 (h k q refl).1 n p e
  plain_on (good x) f h g n p e = g x refl n p e

plain_need : (k : ℕ) (b : Bool) → Plain (need (suc k) b)
plain_need k true = plain_good tt
plain_need k false = plain_refused (suc k) 0 (omega arith) (omega arith)

plain_known : {A : Type 0} (k : ℕ) (o : Option A) → Plain (known (suc k) o)
plain_known k none = plain_refused (suc k) 0 (omega arith) (omega arith)
plain_known k (some a) = plain_good a

plain_lowest : (k : ℕ) (f : ℕ → Bool) (m : ℕ) → m ≤ limits.most_edges → Plain (refuse_if (suc k) (lowest f m))
plain_lowest k f m l = by (lowest f m) refl
  where
    by : (o : Option ℕ) → lowest f m ≡ o → Plain (refuse_if (suc k) o)
    by none e = plain_good tt
    by (some p) e = plain_refused (suc k) p (omega arith) (omega (arith, (lowest-is f m p e).below_n))

module _ (t : List ℕ) where
  table_plain : Plain (table_fine t limits)
  unfolding table_fine
  table_plain =
      plain_on (need 1 (frame_fine t limits)) _ (plain_need 0 (frame_fine t limits))
      (λ u e. let f = framed (frame_fine t limits) refl u e in
      plain_on (refuse_if 2 (lowest (λ i. not (node_fine t limits i)) (nodes t))) _ (plain_lowest 1 (λ i. not (node_fine t limits i)) (nodes t) (omega (arith, f.nodes_fit)))
      (λ v g. plain_on (refuse_if 3 (lowest (λ j. not (edge_fine t j)) (edges t))) _ (plain_lowest 2 (λ j. not (edge_fine t j)) (edges t) (omega (arith, f.edges_fit)))
      (λ w h. plain_lowest 3 (λ i. not (shape_fine t limits i)) (nodes t) (omega (arith, f.nodes_fit)))))
    where
      framed : (b : Bool) → frame_fine t limits ≡ b → (u : Unit {0}) → need 1 b ≡ good u → Frame t limits
      framed true q u e = frame_facts t limits q
      framed false q u e = no_good e

  pub board_plain : (b : List ℕ) (under : Terms) → Plain (board t b under)
  unfolding board board_of
  board_plain b under =
      plain_on (table_fine t limits) _ table_plain
      (λ u e. plain_on (known 5 (marking t b)) _ (plain_known 4 (marking t b))
      (λ m f. plain_on (need 6 (not m.ended)) _ (plain_need 5 (not m.ended))
      (λ v h. plain_on (need 7 (guards_fine t under.guards)) _ (plain_need 6 (guards_fine t under.guards))
      (λ w i. plain_on (need 18 (bounds_fine t under.bounds)) _ (plain_need 17 (bounds_fine t under.bounds))
      (λ x j. plain_on (need 8 (sizes_fine t (offers t (goes_over under) m))) _ (plain_need 7 (sizes_fine t (offers t (goes_over under) m))) (λ y k. plain_good _))))))
