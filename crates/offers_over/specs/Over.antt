-- What goes over an edge: offers that its gate lets, extended over it or begun on it, and the rows after it. Assumes nothing.
use Rattle.std.specs.Prelude.{◌≡◌, ℕ, ◌≤◌, ◌<◌, Bool, true, false, List, [], ◌∷◌, ◌++◌, length, get_or, MatchOption, IfSome}
use Rattle.std.specs.Prelude.{Option as Answer}
use Rattle.std.proofs.Math.Option.{Option, none, some}
use Rattle.paper.specs.Lists.{each, gather, keep, within}
use Rattle.paper.specs.Limits.{limits}
use Rattle.paper.specs.Table.{edges, source, target, kind, into, is_control_node}
use Rattle.paper.specs.Offers.{Offer, first, over, value}
use Rattle.paper.proofs.Members.{Distinct}
use Rattle.table.specs.Incoming.{ListFrom, Forward}
use Rattle.offers.specs.Rows.{row_cells, Rows, rows_in, Holds, fine, Seg, Ranges}
use Rattle.offers.specs.declared.Onto.{Onto}
use Rattle.offers_over.specs.declared.Gate.{Gate}
use Rattle.offers_over.specs.declared.Gate.TheVariants.{Closed, Open, Within}
use Rattle.offers_over.specs.declared.Start.{Start}
use Rattle.offers_over.specs.declared.Start.TheVariants.{Nothing, Token, Value}

-- ---- gates
-- whether a gate lets an offer with this value over its edge
abbrev pub admitted : Gate → Option ℕ → Bool
admitted Closed v = false
admitted Open v = true
admitted (Within low high) none = true
admitted (Within low high) (some v) = within low high v

-- those of xs that are let over an edge, where `lets v` says whether an offer with value v is
abbrev pub let_over : (Option ℕ → Bool) → List Offer → List Offer
let_over lets xs = keep (λ x. lets (value x)) xs

-- ---- the rows after it
-- so many rows as a function answers: no fewer than the c before it, and there is room for them
abbrev pub Grown : ℕ → Answer ℕ → Type 0
Grown c r = IfSome r (λ n. (c ≤ n) × (n ≤ limits.most_offers))

-- the list us is held in so many rows of the cells m as a function answers, or is too long where it answers none
abbrev pub Outcome : List ℕ → List ℕ → Answer ℕ → List Offer → Type 0
Outcome t m r us = MatchOption r (fine us ≡ false) (λ n. Holds t (rows_in m n) us)

-- ---- offers extended
abbrev pub overs : ℕ → List Offer → List Offer
overs e xs = each (λ x. over x e) xs

-- the node is that which the edge leaves, of its kind
pub record Names (t : List ℕ) (o : Onto) : Type 0 where
  pub node-is : o.node ≡ source t o.edge
  pub kind-is : o.kind ≡ kind t o.node

-- the edge leaves a control node
pub record LeavesControl (t : List ℕ) (o : Onto) : Type 0 where
  pub names : Names t o
  pub control : is_control_node (kind t (source t o.edge)) ≡ true

-- of xs, in ts from a to b, those that are let over the edge are to be extended
pub record Ext (t : List ℕ) (r : Rows) (ts xs : List Offer) (a b : ℕ) (o : Onto) (lets : Option ℕ → Bool) : Type 0 where
  pub holds_ts : Holds t r ts
  pub seg : Seg ts a b xs
  pub distinct : Distinct (ts ++ overs o.edge (let_over lets xs))
  pub leaves : LeavesControl t o

-- c rows in the cells m can be added to, and a and b have every edge's part of them
pub record Space (m a b : List ℕ) (c : ℕ) : Type 0 where
  pub few : c ≤ limits.most_offers
  pub cells : row_cells ≤ length m
  pub parts : Ranges a b c
  pub lows : limits.most_edges ≤ length a
  pub highs : limits.most_edges ≤ length b

-- the list of the edges into node s can be gone through
pub record Feeds (first next : List ℕ) (s : ℕ) : Type 0 where
  pub listed : s < length first
  pub forward : Forward next
  pub nexts : limits.most_edges ≤ length next

-- of the offers on all edges into the node, those that are let over the edge are to be extended
pub record Pass (t : List ℕ) (r : Rows) (ts : List Offer) (on : ℕ → List Offer) (first next a b : List ℕ) (o : Onto) (lets : Option ℕ → Bool) : Type 0 where
  pub holds_ts : Holds t r ts
  pub list : ListFrom next (get_or first o.node 0) (into t o.node)
  pub segs : (j : ℕ) → j < edges t → target t j ≡ o.node → Seg ts (get_or a j 0) (get_or b j 0) (on j)
  pub distinct : Distinct (ts ++ overs o.edge (let_over lets (gather on (into t o.node))))
  pub leaves : LeavesControl t o

-- a first offer on e, as the caller has read it
abbrev pub begun_on : ℕ → Start → List Offer
begun_on e Nothing = []
begun_on e Token = first e none ∷ []
begun_on e (Value v) = first e (some v) ∷ []

-- the first offers us are to be put behind ts, as far as they are let over the edge
pub record Begin (t : List ℕ) (r : Rows) (ts : List Offer) (o : Onto) (us : List Offer) (lets : Option ℕ → Bool) : Type 0 where
  pub holds_ts : Holds t r ts
  pub distinct : Distinct (ts ++ let_over lets us)
  pub names : Names t o
