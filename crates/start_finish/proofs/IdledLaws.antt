-- What is delivered once an action is idle. Assumes nothing.
use mathlib.Core.Path.{◌≡◌, refl, sym, ap}
use mathlib.Core.Bool.{◌&&◌}
use mathlib.Core.List.{List, []}
use Prim.Native.Nat.{ℕ}
use lib.Dec.{eqb}
use lib.ListN.{length}
use borrow.Author.Tests.{eqb-true}
use Rattle.paper.specs.Table.{kind, owner, is_input, is_object_node}
use Rattle.paper.specs.Marking.{stockOf, tokensOf}
use Rattle.paper.specs.Operations.{idled, in_room, Reply}
use Rattle.paper.proofs.Bools.{and-true, either_way}
use Rattle.paper.proofs.Bytes.{Bytes}
use Rattle.paper.proofs.OneMarking.{good_elsewhere}
use Rattle.marking_held.specs.MarkingHeld.{Held, MarkingHeld, LiveMarking}
use Rattle.marking_held.proofs.HeldLaws.{live-is-good}
use Rattle.start_finish.specs.Delivered.{Deliverable, delivered}

module _ (t b : List ℕ) {x : Held} (l : LiveMarking t b x) (u : Bytes b) (a : ℕ) (y : Held) (idle : MarkingHeld t (idled t a l.current) b [] y) where
  pub finish_ready : Deliverable t 4 a b y
  unfolding idled
  finish_ready =
      let m = l.current in
      let ok = live-is-good t b x l u in
      record {
        current = idled t a m;
        live = l.live;
        givable = record {
          held = idle;
          no_stock = λ i h. either_way (λ s. s ≡ []) (is_input (kind t i) && eqb (owner t i) a) [] (m.stock i) refl (sym (good_elsewhere t m ok (stockOf i) h));
          no_count = λ e k h. sym (good_elsewhere t m ok (tokensOf e) h);
          for_stocks = λ i h. ap is_object_node (eqb-true (kind t i) 4 (and-true (eqb (kind t i) 4) _ h).0);
        };
      }

  pub finish-reply : (vs : List ℕ) (w : ℕ) (out after : List ℕ)
      → ((d : Deliverable t 4 a b y) → Reply (in_room (length out) (delivered t 4 a (λ i. eqb i a) d.current vs)) w out after)
      → Reply (in_room (length out) (delivered t 4 a (λ i. eqb i a) (idled t a l.current) vs)) w out after
  unfolding finish_ready
  finish-reply vs w out after h = h finish_ready
