-- `conclude`: the action is idle, and its outputs are delivered. Assumes nothing.
use mathlib.Core.List.{List, []}
use Prim.Native.Nat.{ℕ}
use native.Mathlib.Omega.{arith}
use Rattle.paper.specs.Operations.{idled as idledOf}
use Rattle.paper.proofs.Bytes.{Bytes}
use Rattle.table.proofs.Reading.{read-spans, nodes_most}
use Rattle.marking_held.specs.MarkingHeld.{Held, MarkingHeld, LiveMarking, held_of}
use Rattle.marking_held.proofs.HeldLaws.{lengths_up}
use Rattle.start_finish.proofs.IdledLaws.{finish_ready, finish-reply}
use Rattle.start_finish.proofs.conclude.Goals as goal

pub idle-requires : goal.idle-requires
idle-requires c = (read-spans c.args.t.now c.requires.0, c.requires.1, omega (arith, nodes_most c.args.t.now c.requires.0, c.requires.3.lengths.kept-long))

pub deliver-requires : goal.deliver-requires
deliver-requires c =
    let t : List ℕ = c.args.t.now in
    let b : List ℕ = c.args.b.now in
    let idled : Held = held_of c.args.from.now c.idle.new.kept c.args.tokens.now in
    let is-bytes : Bytes b = λ k. (c.type_inv.b k).fits in
    let held : (l : LiveMarking t b (held_of c.args.from.now c.args.kept.now c.args.tokens.now)) → MarkingHeld t (idledOf t c.args.a l.current) b [] idled =
    λ l. c.idle.ensures c.requires.2 l.current b c.args.from.now c.args.tokens.now l.held in
    let l = c.requires.3 in
    let n = l.lengths in (
      c.requires.0,
      lengths_up _ _ _ n.from-long (omega (arith, c.idle.auto, n.kept-long)) n.tokens-long,
      finish_ready t b l is-bytes c.args.a idled (held l),
    )

pub returns : goal.returns
returns c =
    let t : List ℕ = c.args.t.now in
    let b : List ℕ = c.args.b.now in
    let idled : Held = held_of c.args.from.now c.idle.new.kept c.args.tokens.now in
    let is-bytes : Bytes b = λ k. (c.type_inv.b k).fits in
    let held : (l : LiveMarking t b (held_of c.args.from.now c.args.kept.now c.args.tokens.now)) → MarkingHeld t (idledOf t c.args.a l.current) b [] idled =
    λ l. c.idle.ensures c.requires.2 l.current b c.args.from.now c.args.tokens.now l.held in
    let d = c.deliver in
    let a = c.args in (
      λ l. finish-reply t b l is-bytes a.a idled (held l) a.values.now _ a.out.now
          d.new.out d.ensures.0,
      d.ensures.1,
    )
