-- The offers of all edges, edge by edge in order of rank. Assumes nothing.
use Rattle.std.specs.Prelude.{◌≡◌, ℕ, ◌≤◌, ◌<◌, Bool, true, false, List, [], ◌++◌, ◌⊎◌, length, get_or, MatchOption}
use Rattle.std.specs.Prelude.{Option as Answer}
use Rattle.std.proofs.Math.Option.{Option, none}
use Rattle.paper.specs.Lists.{at, all, keep, each, gather}
use Rattle.paper.specs.Limits.{limits}
use Rattle.paper.specs.Table.{nodes, edges, source, target, kind, into, is_join, is_control_node, chain}
use Rattle.paper.specs.Marking.{Marking}
use Rattle.paper.specs.Offers.{Offer, parts, last_edge, value, firsts, ways, handed, offers_on, offers}
use Rattle.paper.proofs.Members.{In, Distinct}
use Rattle.table.specs.declared.Table.{Table}
use Rattle.table.specs.Incoming.{ListFrom, Forward, Incoming}
use Rattle.table_ranks.specs.Chains.{Framed}
use Rattle.terms.specs.Terms.{Ties}
use Rattle.marking.specs.declared.reading.Fields.{Fields}
use Rattle.offers.specs.Rows.{Rows, rows_in, Holds, Seg, Ranges, fine}
use Rattle.offers_over.specs.Over.{Names, Feeds, admitted, begun_on}
use Rattle.offers_over.specs.declared.Gate.{Gate}
use Rattle.offers.specs.declared.Onto.{Onto}
use Rattle.offers_over.specs.declared.Start.{Start}
use Rattle.offers_first.specs.Starts.{FirstOffer}

-- what goes over an edge: any gate will do
abbrev pub Gates : Type 0
Gates = ℕ → Option ℕ → Bool

-- the offers on each edge
abbrev pub on_edge : List ℕ → Gates → Marking → ℕ → List Offer
on_edge t goes m = offers_on t goes m limits.longest_path

-- the rank of an edge's source
abbrev pub rank_of : List ℕ → List ℕ → ℕ → ℕ
rank_of t rk j = get_or rk (source t j) 0

-- ---- one edge
-- a way at the join that edge e leaves goes over e exactly if each of the offers taken does: at most one of them has a value
abbrev pub OneValue : List ℕ → Gates → (ℕ → List Offer) → ℕ → Type 0
OneValue t goes on e =
    is_join (kind t (source t e)) ≡ true → goes e none ≡ true
    → (w : Offer) → In w (ways t (each on (into t (source t e)))) → goes e (value w) ≡ all (λ p. goes e (value p)) (parts w)

-- edge e as rows note it: with the node that it leaves, and that node's kind
abbrev pub onto_edge : List ℕ → ℕ → Onto
onto_edge t e = record { edge = e; node = source t e; kind = kind t (source t e) }

-- what is known before the offers on an edge are put at the end of ts: they are what its gate lets over it of what its source hands on
pub record Due (t : List ℕ) (m : Marking) (goes : Gates) (r : Rows) (ts : List Offer) (on : ℕ → List Offer) (o : Onto) (gate : Gate) : Type 0 where
  pub holds_ts : Holds t r ts
  pub names : Names t o
  pub lets : (v : Option ℕ) → goes o.edge v ≡ admitted gate v
  pub is : on o.edge ≡ keep (λ x. goes o.edge (value x)) (handed t m on o.edge)
  pub distinct : Distinct (ts ++ on o.edge)

-- and that the edge leaves a control node, whose incoming edges are done
pub record Edge (t : List ℕ) (m : Marking) (goes : Gates) (r : Rows) (ts : List Offer) (on : ℕ → List Offer) (first next a b : List ℕ)
    (o : Onto) (gate : Gate) : Type 0 where
  pub due : Due t m goes r ts on o gate
  pub control : is_control_node (kind t (source t o.edge)) ≡ true
  pub list : ListFrom next (get_or first o.node 0) (into t o.node)
  pub segs : (j : ℕ) → j < edges t → target t j ≡ source t o.edge → Seg ts (get_or a j 0) (get_or b j 0) (on j)
  pub lasts : (j : ℕ) (x : Offer) → In x (on j) → last_edge x ≡ j
  pub one_value : OneValue t goes on o.edge

-- ---- rounds
-- the lists of the edges into each node can be gone through
abbrev pub AllFed : List ℕ → List ℕ → List ℕ → Type 0
AllFed t first next = (i : ℕ) → i < nodes t → Feeds first next i

-- lists over the edges can be gone through
pub record Walkable (next : List ℕ) : Type 0 where
  pub forward : Forward next
  pub nexts : limits.most_edges ≤ length next

-- what the builder needs of the table, and a guard for each edge
pub record Sized (t : List ℕ) (x : Table) (g : List ℕ) : Type 0 where
  pub framed : Framed t x
  pub guards : edges t ≤ length g

-- no chain of 16 control nodes ends at an edge's source, and the gates are those of the guards g and the bounds x
pub record Input (t : List ℕ) (m : Marking) (goes : Gates) (g x : List ℕ) : Type 0 where
  pub ties : Ties t g x goes
  pub one_value : (e : ℕ) → e < edges t → OneValue t goes (on_edge t goes m) e
  pub flat : (j : ℕ) → j < edges t → chain t limits.chain_too_long (source t j) ≡ false

-- what begins on an edge that leaves no control node, by the bytes b and the fields f, is its first offer in the marking
abbrev pub FirstOffers : List ℕ → Marking → List ℕ → Fields → Type 0
FirstOffers t m b f =
    (e : ℕ) → e < edges t → is_control_node (kind t (source t e)) ≡ false → (s : Start)
    → FirstOffer b (kind t (source t e)) (at f.from (source t e)) (at f.kept (source t e)) (at f.tokens e) s
    → firsts t m e ≡ begun_on e s

-- ranks rise along edges into control nodes, and there is a round for each; no control node has rank 0, and only control nodes have others
pub record Rising (t rk : List ℕ) : Type 0 where
  pub rises : (j : ℕ) → j < edges t → is_control_node (kind t (target t j)) ≡ true → rank_of t rk j < get_or rk (target t j) 0
  pub low : (j : ℕ) → j < edges t → rank_of t rk j < limits.chain_too_long
  pub begins : (j : ℕ) → j < edges t → rank_of t rk j ≡ 0 → is_control_node (kind t (source t j)) ≡ false
  pub goes_on : (j : ℕ) → j < edges t → 1 ≤ rank_of t rk j → is_control_node (kind t (source t j)) ≡ true

-- what the first round goes by: ranks, and first offers
pub record Opening (t : List ℕ) (m : Marking) (goes : Gates) (g x b : List ℕ) (f : Fields) (rk : List ℕ) : Type 0 where
  pub input : Input t m goes g x
  pub starts : FirstOffers t m b f
  pub rising : Rising t rk

-- what the others go by: ranks, and the lists of incoming edges
pub record Plan (t : List ℕ) (m : Marking) (goes : Gates) (g x rk first next : List ℕ) : Type 0 where
  pub input : Input t m goes g x
  pub rising : Rising t rk
  pub incoming : Incoming t first next

-- edge j is done when the edges js of rank r are left
abbrev pub Done : List ℕ → List ℕ → ℕ → List ℕ → ℕ → Type 0
Done t rk r js j = (rank_of t rk j < r) ⊎ ((rank_of t rk j ≡ r) × (In j js → ⊥))

-- the edges ds are done: those of a lower rank than r, and of rank r all but js
pub record Stage (t : List ℕ) (on : ℕ → List Offer) (rk : List ℕ) (r : ℕ) (js : List ℕ) (rows : Rows) (a b : List ℕ) (ds : List ℕ) : Type 0 where
  pub holds_ts : Holds t rows (gather on ds)
  pub apart : Distinct ds
  pub left : (j : ℕ) → In j js → (j < edges t) × (rank_of t rk j ≡ r)
  pub left-once : Distinct js
  pub only : (j : ℕ) → In j ds → (j < edges t) × Done t rk r js j
  pub every : (j : ℕ) → j < edges t → Done t rk r js j → In j ds
  pub segs : (j : ℕ) → In j ds → Seg (gather on ds) (get_or a j 0) (get_or b j 0) (on j)

-- those of rank r that are left are the list from edge e on
abbrev pub LeftFrom : List ℕ → (ℕ → List Offer) → List ℕ → ℕ → List ℕ → ℕ → Rows → List ℕ → List ℕ → Type 0
LeftFrom t on rk r after e rows a b = (js : List ℕ) × (ds : List ℕ) × ListFrom after e js × Stage t on rk r js rows a b ds

-- every edge's part of the list: of so many offers as a function answers, or of as many as there may be where it answers none
abbrev pub Parts : List ℕ → List ℕ → Answer ℕ → Type 0
Parts a b n = MatchOption n (Ranges a b limits.most_offers) (λ c. (c ≤ limits.most_offers) × Ranges a b c)

-- after round r: all edges of rank r are done, in so many rows of the cells x as a function answers, or there are too many offers
abbrev pub AfterRound : List ℕ → Marking → Gates → List ℕ → ℕ → List ℕ → Answer ℕ → List ℕ → List ℕ → Type 0
AfterRound t m goes rk r x n a b = MatchOption n (fine (offers t goes m) ≡ false) (λ c. (ds : List ℕ) × Stage t (on_edge t goes m) rk r [] (rows_in x c) a b ds)

-- the whole list: some order of the edges, every edge's offers from a to b of the list in that order
pub record Whole (t : List ℕ) (m : Marking) (goes : Gates) (rows : Rows) (a b : List ℕ) : Type 0 where
  pub order : List ℕ
  pub once : Distinct order
  pub all_edges : (j : ℕ) → j < edges t → In j order
  pub only-edges : (j : ℕ) → In j order → j < edges t
  pub holds_ts : Holds t rows (gather (on_edge t goes m) order)
  pub segs : (j : ℕ) → j < edges t → Seg (gather (on_edge t goes m) order) (get_or a j 0) (get_or b j 0) (on_edge t goes m j)
  pub sizes : fine (offers t goes m) ≡ true

-- the whole list in so many rows of the cells x as a function answers, or there are too many offers
abbrev pub Result : List ℕ → Marking → Gates → List ℕ → Answer ℕ → List ℕ → List ℕ → Type 0
Result t m goes x n a b = MatchOption n (fine (offers t goes m) ≡ false) (λ c. Whole t m goes (rows_in x c) a b)
