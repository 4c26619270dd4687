-- What the rows of an offer list say: row i is that of tree i. The rows stand in one lent slice, 16 cells each, and at the end in the arrays of
-- the struct Offers; both are seen as `Rows`. Assumes nothing.
use Rattle.std.specs.Prelude.{◌≡◌, ℕ, ◌+◌, ◌*◌, ◌^◌, ◌≤◌, ◌<◌, Bool, true, false, ◌&&◌, cond, List, [], ◌∷◌, ◌++◌, eqb, leb, length, get_or}
use Rattle.std.proofs.Math.Option.{Option, none, some}
use Rattle.paper.specs.Lists.{all, each}
use Rattle.paper.specs.Limits.{limits}
use Rattle.paper.specs.Table.{source, kind}
use Rattle.paper.specs.Offers.{Offer, first, over, with, last_edge, value, paths, makers, origins}
use Rattle.paper.proofs.Members.{In, Distinct}
use Rattle.paper.proofs.Competing.{StockFirst}
use Rattle.words.specs.Clash.{hit}
use Rattle.offers.specs.Sets.{nth, Means, Foes, Marks}
use Rattle.offers.specs.declared.Onto.{Onto}
use Rattle.offers.specs.declared.Worth.{Worth}

-- ---- rows
-- one row: last edge, the node it leaves, whether there is a value and which, the number of paths, and three words
pub record Entry : Type 0 where
  pub last : ℕ
  pub node : ℕ
  pub has : ℕ
  pub value : ℕ
  pub paths : ℕ
  pub parents : ℕ
  pub makers : ℕ
  pub foes : ℕ

abbrev pub entry_of : ℕ → ℕ → ℕ → ℕ → ℕ → ℕ → ℕ → ℕ → Entry
entry_of l n h v p a m f = record { last = l; node = n; has = h; value = v; paths = p; parents = a; makers = m; foes = f }

-- `before i k`: what path k of row i goes on from, 0 for nothing and 8 * j + l + 1 for path l of row j
pub record Rows : Type 0 where
  pub entry : ℕ → Entry
  pub before : ℕ → ℕ → ℕ
  pub count : ℕ

-- the cells of as many rows as there may be, 16 each
abbrev pub row_cells : ℕ
row_cells = 16 * limits.most_offers

-- cell k of row i
abbrev pub cell : List ℕ → ℕ → ℕ → ℕ
cell m i k = get_or m (16 * i + k) 0

-- c rows in a slice of cells
abbrev pub rows_in : List ℕ → ℕ → Rows
rows_in m c = record {
  entry = λ i. entry_of (get_or m (16 * i) 0) (cell m i 1) (cell m i 2) (cell m i 3) (cell m i 4) (cell m i 5) (cell m i 6) (cell m i 7);
  before = λ i k. get_or m (16 * i + 8 + k) 0;
  count = c;
}

-- ---- paths
-- a number of paths as far as there is room for them
abbrev pub up_to_most : ℕ → ℕ
up_to_most x = cond (leb x limits.most_paths) x limits.most_paths

-- path k of row i is the path p
pub data Route (r : Rows) : ℕ → ℕ → List ℕ → Type 0 where
  begins : {i k : ℕ} → r.before i k ≡ 0 → Route r i k ((r.entry i).last ∷ [])
  goes : {i k j l : ℕ} {p : List ℕ} → r.before i k ≡ 8 * j + l + 1 → j < i → l < (r.entry j).paths → Route r j l p → Route r i k (p ++ ((r.entry i).last ∷ []))

-- path k of the row to come goes on from the path p
pub record Lead (r : Rows) (k : ℕ) (p : List ℕ) : Type 0 where
  pub row : ℕ
  pub path : ℕ
  pub cell-is : r.before r.count k ≡ 8 * row + path + 1
  pub row-held : row < r.count
  pub path-held : path < (r.entry row).paths
  pub route : Route r row path p

-- the paths of the row to come go on from the paths qs, as far as there is room for them
abbrev pub Leads : Rows → List (List ℕ) → Type 0
Leads r qs = (k : ℕ) → k < length qs → k < limits.most_paths → Lead r k (get_or qs k [])

-- the row to come begins a path of its own, or goes on from those of what it was made of
pub data Trail (r : Rows) (e : ℕ) : List (List ℕ) → Type 0 where
  alone : r.before r.count 0 ≡ 0 → Trail r e ((e ∷ []) ∷ [])
  after : (qs : List (List ℕ)) → Leads r qs → Trail r e (each (λ q. q ++ (e ∷ [])) qs)

-- n paths of row j, in the row to come from its path `at` on, as far as there is room for them
pub record Led (m m' : List ℕ) (c at j n : ℕ) : Type 0 where
  pub old : (x : ℕ) → x < 16 * c + 8 + at → get_or m' x 0 ≡ get_or m x 0
  pub new : (k : ℕ) → k < n → at + k < 8 → get_or m' (16 * c + 8 + (at + k)) 0 ≡ 8 * j + k + 1

-- ---- a row and its tree
abbrev pub value_of : ℕ → ℕ → Option ℕ
value_of h v = cond (eqb h 0) none (some v)

unfoldable pub is_offer : Offer → Bool
is_offer (first e v) = true
is_offer (over o e) = true
is_offer (with o p) = false

-- the numbers of a row fit the arrays
pub record Narrow (r : Entry) : Type 0 where
  pub last-small : r.last < 2 ^ 8
  pub node-small : r.node < 2 ^ 8
  pub has-small : r.has < 2 ^ 8
  pub value-small : r.value < 2 ^ 32

-- the row r is that of the tree x, where ts are the trees of the list
pub record Row (t : List ℕ) (ts : List Offer) (x : Offer) (r : Entry) : Type 0 where
  pub offer : is_offer x ≡ true
  pub last-is : r.last ≡ last_edge x
  pub node-is : r.node ≡ source t (last_edge x)
  pub stock-first : StockFirst t x
  pub value-is : value_of r.has r.value ≡ value x
  pub paths-are : r.paths ≡ length (paths x)
  pub few : length (paths x) ≤ limits.most_paths
  pub parents-are : Means ts r.parents (origins x)
  pub makers-are : Means ts r.makers (makers x)
  pub foes-are : Foes t ts r.foes r.makers
  pub narrow : Narrow r

-- the rows r hold the trees ts, and the paths of each in the definition's order
pub record Holds (t : List ℕ) (r : Rows) (ts : List Offer) : Type 0 where
  pub count-is : r.count ≡ length ts
  pub fits : r.count ≤ limits.most_offers
  pub distinct : Distinct ts
  pub rows : (i : ℕ) → i < length ts → Row t ts (nth ts i) (r.entry i)
  pub routes : (i : ℕ) → i < length ts → (k : ℕ) → k < length (paths (nth ts i)) → Route r i k (get_or (paths (nth ts i)) k [])

-- ---- one more
-- s is r with the row x at its end
pub record Pushed (r s : Rows) (x : Entry) : Type 0 where
  pub more : s.count ≡ r.count + 1
  pub old : (i : ℕ) → i < r.count → s.entry i ≡ r.entry i
  pub new : s.entry r.count ≡ x
  pub same : (i k : ℕ) → i ≤ r.count → k < limits.most_paths → s.before i k ≡ r.before i k

-- d has those of the first c rows that have no value
abbrev pub Controls : Rows → ℕ → ℕ → Type 0
Controls r c d = Marks (λ j. eqb (r.entry j).has 0) c d

-- d has those of the first c rows that clash with it, where w has the rows on control edges
abbrev pub Hits : Rows → ℕ → ℕ → ℕ → ℕ → ℕ → ℕ → Type 0
Hits r n k a w c d = Marks (λ j. hit n k a (r.entry j).node (r.entry j).parents w) c d

-- all makers but itself
unfoldable pub under : Offer → List Offer
under (first e v) = []
under (over o e) = makers o
under (with o p) = []

-- what is known of an offer x before it is put at the end of ts: its row, but with the makers m and the foes f of what it was made of
pub record Ready (t : List ℕ) (r : Rows) (ts : List Offer) (x : Offer) (o : Onto) (u : Worth) (p a m f : ℕ) : Type 0 where
  pub offer : is_offer x ≡ true
  pub fresh : In x ts → ⊥
  pub last-is : o.edge ≡ last_edge x
  pub node-is : o.node ≡ source t (last_edge x)
  pub kind-is : o.kind ≡ kind t o.node
  pub stock-first : StockFirst t x
  pub value-is : value_of u.has u.value ≡ value x
  pub paths-are : p ≡ length (paths x)
  pub few : length (paths x) ≤ limits.most_paths
  pub parents-are : Means ts a (origins x)
  pub makers-are : Means ts m (under x)
  pub foes-are : Foes t ts f m
  pub narrow : Narrow (entry_of o.edge o.node u.has u.value p a m f)
  pub trail : Trail r o.edge (paths x)

-- ---- sizes and parts of a list
-- the first two sizes of row 8
unfoldable pub fine : List Offer → Bool
fine us = leb (length us) limits.most_offers && all (λ x. leb (length (paths x)) limits.most_paths) us

-- xs stand in ts from a to b
pub record Seg (ts : List Offer) (a b : ℕ) (xs : List Offer) : Type 0 where
  pub pre : List Offer
  pub post : List Offer
  pub is : ts ≡ pre ++ (xs ++ post)
  pub from_a : length pre ≡ a
  pub to_b : a + length xs ≡ b

-- every edge's part of a list of c offers
abbrev pub Ranges : List ℕ → List ℕ → ℕ → Type 0
Ranges a b c = (j : ℕ) → (get_or a j 0 ≤ get_or b j 0) × (get_or b j 0 ≤ c)
