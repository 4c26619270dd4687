-- What finish answers, row by row: of the marking that was read, of an action that runs in it, and what is then delivered. Assumes nothing.
use mathlib.Core.Path.{◌≡◌, sym}
use mathlib.Core.Bool.{Bool, true}
use mathlib.Core.List.{List}
use Prim.Native.Nat.{ℕ}
use lib.Dec.{eqb}
use lib.ListN.{length}
use Rattle.paper.specs.Answers.{refused, good, need}
use Rattle.paper.specs.Table.{outputs}
use Rattle.paper.specs.Marking.{marking}
use Rattle.paper.specs.Operations.{idled, finish_of, finish, in_room, Reply, Leaves, Only}
use Rattle.paper.proofs.Ladders.{need-refused}
use Rattle.table.specs.declared.Table.{Table}
use Rattle.table.specs.Reading.{table_read}
use Rattle.table.proofs.Reading.{read-fine}
use Rattle.std.specs.Prelude.{Result, Ok, Err}
use Rattle.wire.specs.declared.Refusal.{Refusal}
use Rattle.wire.specs.Refusals.{number, place}
use Rattle.marking.specs.Reading.{MarkingRead}
use Rattle.marking.specs.Values.{listed_nodes}
use Rattle.marking_held.specs.MarkingHeld.{Held, LiveMarking}
use Rattle.marking_give.specs.Giving.{give_of}
use Rattle.marking_held.proofs.HeldLaws.{refused_up, ended_up}
use Rattle.start_finish.specs.Delivered.{delivered}
use Rattle.start_finish.specs.Running.{runs_in}

module _ (t b : List ℕ) (a : ℕ) (vs : List ℕ) where
  module _ {x : Table} (e : table_read t ≡ good x) where
    module _ (from kept tokens : List ℕ) (r : Result Bool Refusal) (h : MarkingRead t b from kept tokens (marking t b) r) where
      pub finish_5 : (w : Refusal) → r ≡ Err w → finish t b a vs ≡ refused (number w) (place w)
      unfolding finish
      finish_5 w q = let z = refused_up t b from kept tokens r h w q in rw (read-fine t e, z.0, z.1, z.2)

      pub finish_6 : r ≡ Ok true → finish t b a vs ≡ refused 6 0
      unfolding finish finish_of
      finish_6 q = let z = ended_up t b from kept tokens r h q in rw (read-fine t e, z.1, z.2)

    -- w is the number of the action
    module _ {y : Held} (l : LiveMarking t b y) {w : ℕ} (same : w ≡ a) where
      pub finish_14 : (n p : ℕ) → refused n p ≡ need 14 (runs_in t l.current w) → finish t b a vs ≡ refused n p
      unfolding finish finish_of
      finish_14 n p h = let q = need-refused 14 (runs_in t l.current a) n p (rw same at h) in rw (read-fine t e, l.is_read, l.live, q.0, q.1, q.2)

      finish_delivers : runs_in t l.current a ≡ true → finish t b a vs ≡ delivered t 4 a (λ i. eqb i a) (idled t a l.current) vs
      unfolding finish finish_of delivered give_of outputs listed_nodes
      finish_delivers n = rw (read-fine t e, l.is_read, l.live, n)

      pub finish-leaves : runs_in t l.current w ≡ true → (r : ℕ) (out after : List ℕ)
          → Reply (in_room (length out) (delivered t 4 w (λ i. eqb i w) (idled t w l.current) vs)) r out after → Leaves (Only (finish t b a vs)) r out after
      finish-leaves n r out after h = record {
        answer = delivered t 4 a (λ i. eqb i a) (idled t a l.current) vs;
        allowed = sym (finish_delivers (rw same at n));
        reply = rw same at h;
      }
