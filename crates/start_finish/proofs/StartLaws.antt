-- What start answers on a table that was read: nothing is held, and what is delivered is the paper's. Assumes nothing.
use mathlib.Core.Path.{◌≡◌, refl, sym, ap}
use mathlib.Core.Bool.{Bool, true, false, ◌&&◌}
use mathlib.Core.List.{List}
use Prim.Native.Nat.{ℕ, ◌<◌}
use lib.ListN.{length}
use lib.Dec.{eqb}
use borrow.Author.Tests.{eqb-true}
use Rattle.paper.specs.Lists.{below, keep}
use Rattle.paper.specs.Limits.{limits}
use Rattle.paper.specs.Answers.{good}
use Rattle.paper.specs.Table.{nodes, kind, owner, is_incoming, is_object_node}
use Rattle.paper.specs.Marking.{blank}
use Rattle.paper.specs.Operations.{start_of, start, in_room, Reply, Leaves, Only}
use Rattle.paper.proofs.Bools.{and-true}
use Rattle.paper.proofs.Lists.{keep_same}
use Rattle.paper.proofs.Tables.{GoodTable}
use Rattle.table.specs.declared.Table.{Table}
use Rattle.table.specs.Reading.{table_read}
use Rattle.table.proofs.Reading.{read-fine, read-good}
use Rattle.marking.specs.Values.{is_listed, listed_nodes}
use Rattle.marking_held.specs.MarkingHeld.{no_nodes, no_edges, held_of}
use Rattle.marking_held.proofs.HeldLaws.{nothing_held}
use Rattle.marking_give.specs.Giving.{give_of}
use Rattle.start_finish.specs.Delivered.{Deliverable, delivered}

-- an incoming parameter belongs to none
incoming-listed : (t : List ℕ) → GoodTable t limits → keep (λ n. is_incoming (kind t n)) (below (nodes t)) ≡ listed_nodes t 6 255
unfolding listed_nodes
incoming-listed t g = keep_same (λ n. is_incoming (kind t n)) (is_listed t 6 255) (nodes t) (λ i l. by i l (is_incoming (kind t i)) refl)
  where
    by : (i : ℕ) → i < nodes t → (c : Bool) → is_incoming (kind t i) ≡ c → c ≡ c && eqb (owner t i) 255
    by i l true e = let k = eqb-true (kind t i) 6 e in sym (rw k at (g.node i l).owner-fine)
    by i l false e = refl

module _ (t b : List ℕ) (x : Table) (e : table_read t ≡ good x) where
  start_is : start_of t b ≡ give_of t 6 255 (λ i. eqb (kind t i) 1) (blank false) b
  unfolding start_of give_of
  start_is = rw (incoming-listed t (read-good t e))

  start_delivers : start t b ≡ delivered t 6 255 (λ i. eqb (kind t i) 1) (blank false) b
  unfolding start delivered
  start_delivers = rw (read-fine t e, start_is)

  -- nothing is held, and incoming parameters are object nodes
  pub start_ready : Deliverable t 6 255 b (held_of no_nodes no_nodes no_edges)
  start_ready = record {
    current = blank false;
    live = refl;
    givable = record {
      held = nothing_held t b false;
      no_stock = λ i h. refl;
      no_count = λ e l h. refl;
      for_stocks = λ i h. ap is_object_node (eqb-true (kind t i) 6 (and-true (eqb (kind t i) 6) _ h).0);
    };
  }

  pub start-leaves : (w : ℕ) (out after : List ℕ)
      → ((d : Deliverable t 6 255 b (held_of no_nodes no_nodes no_edges))
      → Reply (in_room (length out) (delivered t 6 255 (λ i. eqb (kind t i) 1) d.current b)) w out after)
      → Leaves (Only (start t b)) w out after
  unfolding start_ready
  start-leaves w out after h = record {
    answer = delivered t 6 255 (λ i. eqb (kind t i) 1) (blank false) b;
    allowed = sym start_delivers;
    reply = h start_ready;
  }
