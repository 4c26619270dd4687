-- Whether a step ends the marking, and what it leaves then: the paper's next marking. Assumes nothing.
use mathlib.Core.Path.{◌≡◌, refl, sym, ap, ◌∙◌}
use mathlib.Core.Bool.{Bool, true, false, cond}
use mathlib.Core.List.{List}
use Prim.Native.Nat.{ℕ, ◌<◌}
use native.Mathlib.Omega.{arith}
use Rattle.paper.specs.Lists.{at, any, one_if}
use Rattle.paper.specs.Answers.{good}
use Rattle.paper.specs.Table.{kind, is_activity_final}
use Rattle.paper.specs.Marking.{ended_of}
use Rattle.paper.specs.Offers.{target_of}
use Rattle.paper.specs.Choices.{Board, taken_ends, spend, gain, close, next}
use Rattle.table.specs.declared.Table.{Table}
use Rattle.table.specs.Reading.{table_read}
use Rattle.table.proofs.Reading.{read-spans, target-node}
use Rattle.offers.specs.declared.Offers.{Offers}
use Rattle.ends_masks.specs.declared.Ends.{Ends}
use Rattle.ends_masks.specs.Seating.{Stands}
use Rattle.ends_masks.proofs.Taking.{any-ends}
use Rattle.ends_masks.proofs.Rules.{target_row}
use Rattle.marking_held.specs.MarkingHeld.{MarkingHeld, held_in}
use Rattle.step_close.specs.Closing.{closes, Closed}
use Rattle.step_close.proofs.Clearing.{closed_held}

module _ {t : List ℕ} {d : Board} {o : Offers} {e : Ends} {runs stock : List ℕ} (s : Stands t d o e runs stock) where
  -- the targets of its ends are nodes
  pub targets-nodes : {x : Table} → table_read t ≡ good x → (k : ℕ) → k < e.count → at e.target k < x.nodes
  targets-nodes h k l =
      let z = s.seated in
      omega (arith, z.targets-are k l, target-node t h (at e.edge k) (omega (arith, z.edges-inside k l, (read-spans t h).edges-read)))

  module _ (c : ℕ) where
    closing_is : any (λ y. is_activity_final (kind d.table (target_of d.table y))) (taken_ends d c) ≡ closes t e.target e.count c
    unfolding closes
    closing_is =
        let z = s.seated in
        any-ends t d o s.beside s.trees e c z (λ y. is_activity_final (kind d.table (target_of d.table y)))
        (λ k. is_activity_final (kind t (at e.target k)))
        (λ k l. ap (λ i. is_activity_final (kind d.table i)) (target_row t d o s.beside s.trees e c z k l)
        ∙ ap (λ (u : List ℕ). is_activity_final (kind u (at e.target k))) z.table_is)

    next-is : next d c ≡ cond (closes t e.target e.count c) (ended_of t (gain d c (spend d c d.current))) (gain d c (spend d c d.current))
    unfolding next close
    next-is =
        let m = gain d c (spend d c d.current) in
        rw closing_is (ap (λ (u : List ℕ). cond (closes t e.target e.count c) (ended_of u m) m) s.seated.table_is)

    -- what is held once the marking has ended or not, and the state that is written
    pub next-held : {kept more rs tokens kept' more' rs' tokens' : List ℕ}
        → Closed t (closes t e.target e.count c) kept more rs tokens kept' more' rs' tokens'
        → {b extra f q : List ℕ} → MarkingHeld t (gain d c (spend d c d.current)) b extra (held_in f kept q more rs tokens)
        → MarkingHeld t (next d c) b extra (held_in f kept' q more' rs' tokens')
    next-held z h = rw next-is (closed_held (closes t e.target e.count c) z h)

    pub next-state : d.current.ended ≡ false → one_if (closes t e.target e.count c) ≡ one_if (next d c).ended
    unfolding gain spend ended_of
    next-state live = rw next-is (by (closes t e.target e.count c))
      where
        by : (b : Bool) → one_if b ≡ one_if (cond b (ended_of t (gain d c (spend d c d.current))) (gain d c (spend d c d.current))).ended
        by true = refl
        by false = sym (ap one_if live)
