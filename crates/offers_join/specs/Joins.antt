-- A join: its ways found depth first, what the offers taken come to, and the words that the search goes by. `goes` says which values go over the
-- outgoing edge. Assumes nothing.
use Rattle.std.specs.Prelude.{◌≡◌, ℕ, ◌+◌, ◌^◌, ◌≤◌, ◌<◌, Bool, true, not, ◌&&◌, cond, List, [], ◌∷◌, ◌++◌, length, get_or, MatchOption}
use Rattle.std.specs.Prelude.{Option as Answer}
use Rattle.std.proofs.Math.Option.{Option, none}
use Rattle.paper.specs.Lists.{all, any, each, gather, has}
use Rattle.paper.specs.Table.{edges, target, into}
use Rattle.paper.specs.Offers.{Offer, first, over, with, parts, last_edge, makers, paths, value, or_else, compete, ways}
use Rattle.paper.specs.Limits.{limits}
use Rattle.paper.proofs.Members.{In, Distinct}
use Rattle.table.specs.Incoming.{ListFrom}
use Rattle.offers_ahead.specs.Dead.{AheadRoom}
use Rattle.offers.specs.Sets.{nth, Means, Foes}
use Rattle.offers.specs.Rows.{row_cells, Rows, Holds, Leads, value_of, Seg}
use Rattle.offers_over.specs.Over.{let_over, overs, LeavesControl}
use Rattle.offers.specs.declared.Onto.{Onto}
use Rattle.offers_join.specs.declared.Way.{Way}

-- ---- the search, on trees
-- the offers of a way, as the join has them
abbrev pub together : List Offer → Offer
together [] = first 0 none
together (p ∷ []) = p
together (p ∷ (q ∷ ps)) = with p (together (q ∷ ps))

-- every part of w goes over the outgoing edge, and none of pre competes with one
abbrev pub clear : List ℕ → (Option ℕ → Bool) → List Offer → Offer → Bool
clear t goes [] w = all (λ p. goes (value p)) (parts w)
clear t goes (p ∷ ps) w = not (any (compete t p) (parts w)) && clear t goes ps w

-- what the search finds once the offers of pre are taken, where oss are the offers on the edges that are left; e is the outgoing edge
unfoldable pub found_ways : List ℕ → (Option ℕ → Bool) → ℕ → List Offer → List (List Offer) → List Offer
found_ways t goes e pre [] = over (together pre) e ∷ []
found_ways t goes e pre (os ∷ oss) = gather (λ x. cond (clear t goes pre x) (found_ways t goes e (pre ++ (x ∷ [])) oss) []) os

-- ---- what the offers taken come to
abbrev pub value_all : List Offer → Option ℕ
value_all [] = none
value_all (p ∷ ps) = or_else (value p) (value_all ps)

-- w says what the offers ps come to, and the row to come goes on from their paths
pub record Taken (t : List ℕ) (r : Rows) (ts ps : List Offer) (w : Way) : Type 0 where
  pub parents-are : Means ts w.parents (gather parts ps)
  pub makers-are : Means ts w.makers (gather makers ps)
  pub foes-are : Foes t ts w.foes w.makers
  pub paths-are : w.paths ≡ length (gather paths ps)
  pub value-is : value_of w.has w.value ≡ value_all ps
  pub has-small : w.has < 2 ^ 8
  pub value-small : w.value < 2 ^ 32
  pub leads : Leads r (gather paths ps)

-- the first q numbers in chosen are those of the offers ps
pub record Picked (ts : List Offer) (chosen : List ℕ) (q : ℕ) (ps : List Offer) : Type 0 where
  pub number : length ps ≡ q
  pub inside : (k : ℕ) → k < q → get_or chosen k 0 < length ts
  pub are : (k : ℕ) → k < q → nth ts (get_or chosen k 0) ≡ nth ps k

-- ---- the words of the search
-- the edges q to d have the offers oss
abbrev pub Levels : List Offer → List ℕ → List ℕ → ℕ → ℕ → List (List Offer) → Type 0
Levels ts a b q d [] = q ≡ d
Levels ts a b q d (os ∷ oss) = Seg ts (get_or a q 0) (get_or b q 0) os × ((q < d) × Levels ts a b (q + 1) d oss)

-- the edges below d have parts of a list of n offers
abbrev pub Within : List ℕ → List ℕ → ℕ → ℕ → Type 0
Within a b d n = (k : ℕ) → k < d → (get_or a k 0 ≤ get_or b k 0) × (get_or b k 0 ≤ n)

-- of the first n offers, w has those that compete with offer i
abbrev pub RivalRow : List ℕ → List Offer → ℕ → ℕ → ℕ → Type 0
RivalRow t ts n i w = (j : ℕ) → j < n → has w j ≡ compete t (nth ts i) (nth ts j)

-- bad has a row for each offer in the word `wanted`
abbrev pub Rivals : List ℕ → List Offer → ℕ → ℕ → List ℕ → Type 0
Rivals t ts n wanted bad = (i : ℕ) → i < n → has wanted i ≡ true → RivalRow t ts n i (get_or bad i 0)

-- w has the numbers from a to b
abbrev pub Span : ℕ → ℕ → ℕ → Type 0
Span a b w = (i : ℕ) → a ≤ i → i < b → has w i ≡ true

-- row k of seg has the numbers from a to b of edge k, and so has the word `wanted`
abbrev pub SegmentWords : List ℕ → List ℕ → ℕ → List ℕ → ℕ → Type 0
SegmentWords a b d seg wanted = (k : ℕ) → k < d → Span (get_or a k 0) (get_or b k 0) (get_or seg k 0) × Span (get_or a k 0) (get_or b k 0) wanted

-- of the first n offers, w has those that don't go over the outgoing edge
abbrev pub BarredRows : (Option ℕ → Bool) → List Offer → ℕ → ℕ → Type 0
BarredRows goes ts n w = (j : ℕ) → j < n → has w j ≡ not (goes (value (nth ts j)))

-- of the first n offers, w has those that are not clear of pre
abbrev pub Blocks : List ℕ → (Option ℕ → Bool) → List Offer → ℕ → List Offer → ℕ → Type 0
Blocks t goes ts n pre w = (j : ℕ) → j < n → has w j ≡ not (clear t goes pre (nth ts j))

-- what the search may rely on to run: the edges a to b of the first n of c offers, a word for each, and room for d choices of which q are made
pub record Safe (m a b bad seg chosen : List ℕ) (n c d q : ℕ) : Type 0 where
  pub parts : Within a b d n
  pub held : n ≤ c
  pub few : c ≤ limits.most_offers
  pub cells : row_cells ≤ length m
  pub lows : d ≤ length a
  pub highs : d ≤ length b
  pub choices : d ≤ length chosen
  pub level : q ≤ d
  pub room : AheadRoom bad seg n d
  pub made : (k : ℕ) → k < q → get_or chosen k 0 < n

-- the search from here on: pre is taken on the edges before q, and oss are the offers on the edges q to d
pub record Dfs (t : List ℕ) (goes : Option ℕ → Bool) (r : Rows) (ts pre : List Offer) (oss : List (List Offer)) (a b bad seg chosen : List ℕ)
    (n d q blocked wanted : ℕ) (o : Onto) : Type 0 where
  pub holds_ts : Holds t r ts
  pub some-edge : 0 < d
  pub old : n ≤ length ts
  pub levels : Levels ts a b q d oss
  pub distinct : Distinct (ts ++ found_ways t goes o.edge pre oss)
  pub picked : Picked ts chosen q pre
  pub blocks : Blocks t goes ts n pre blocked
  pub rivals : Rivals t ts n wanted bad
  pub spans : SegmentWords a b d seg wanted
  pub leaves : LeavesControl t o

-- ---- the incoming edges
-- lo and hi have the segments of the edges js, as a and b have them by edge
pub record SegmentsOf (a b js lo hi : List ℕ) (d : ℕ) : Type 0 where
  pub number : d ≡ length js
  pub lows : (i : ℕ) → i < length js → get_or lo i 0 ≡ get_or a (get_or js i 0) 0
  pub highs : (i : ℕ) → i < length js → get_or hi i 0 ≡ get_or b (get_or js i 0) 0

-- the edges js, at least one and no more than there may be offers, with their segments
pub record Served (a b js lo hi : List ℕ) (d : ℕ) : Type 0 where
  pub some-edge : 0 < d
  pub few : d ≤ limits.most_offers
  pub segments : SegmentsOf a b js lo hi d

-- there is no edge, or one without an offer, or more edges than there may be offers
pub data Unserved (a b js : List ℕ) : Type 0 where
  no_edge : js ≡ [] → Unserved a b js
  bare : (j : ℕ) → In j js → get_or b j 0 ≤ get_or a j 0 → Unserved a b js
  too_many : limits.most_offers < length js → Unserved a b js

-- what was found of the edges js: offers on each of so many, or none that can be joined
abbrev pub Brings : List ℕ → List ℕ → List ℕ → List ℕ → List ℕ → Answer ℕ → Type 0
Brings a b js lo hi r = MatchOption r (Unserved a b js) (λ d. Served a b js lo hi d)

-- the offers on the edges into the join are to be joined, as far as they go over the edge
pub record Meeting (t : List ℕ) (goes : Option ℕ → Bool) (r : Rows) (ts : List Offer) (on : ℕ → List Offer)
    (first next a b : List ℕ) (o : Onto) : Type 0 where
  pub holds_ts : Holds t r ts
  pub list : ListFrom next (get_or first o.node 0) (into t o.node)
  pub segs : (j : ℕ) → j < edges t → target t j ≡ o.node → Seg ts (get_or a j 0) (get_or b j 0) (on j)
  -- an offer is on one edge only, so more edges than offers are never all served
  pub lasts : (j : ℕ) (x : Offer) → In x (on j) → last_edge x ≡ j
  pub distinct : Distinct (ts ++ overs o.edge (let_over goes (ways t (each on (into t o.node)))))
  pub leaves : LeavesControl t o
  -- of the offers taken together at most one has a value, so a way goes over the edge exactly if each of its offers does
  pub one_value : (w : Offer) → In w (ways t (each on (into t o.node))) → goes (value w) ≡ all (λ p. goes (value p)) (parts w)
