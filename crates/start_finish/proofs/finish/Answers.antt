-- `finish`: rows 5, 6 and 14, then what `conclude` leaves. Assumes nothing.
use mathlib.Core.Path.{◌≡◌, refl, sym, ap, ◌∙◌}
use mathlib.Core.Bool.{true, false}
use native.Mathlib.Omega.{arith}
use Rattle.std.specs.Prelude.{Ok}
use Rattle.std.proofs.lemmas.Result.{err_from_is_err_and}
use Rattle.paper.proofs.Ladders.{need-passed}
use Rattle.table.proofs.Reading.{read-spans, read-good, nodes_most, edges_most}
use Rattle.marking_held.specs.MarkingHeld.{LiveMarking, held_of}
use Rattle.marking_held.proofs.HeldLaws.{lengths_up, live_up}
use Rattle.start_finish.specs.Running.{runs_in}
use Rattle.start_finish.proofs.RunningLaws.{running-node}
use Rattle.start_finish.proofs.FinishLaws.{finish_5, finish_6, finish_14, finish-leaves}
use Rattle.start_finish.proofs.finish.Goals as goal
use Rattle.start_finish.proofs.finish.Goals.{Else-ended, In_ok-running}

pub read-requires : goal.read-requires
read-requires c = let t = c.args.t.now in
    (c.requires, nodes_most t c.requires, nodes_most t c.requires, edges_most t c.requires)

pub returns-in_err-ended : goal.returns-in_err-ended
returns-in_err-ended c = let a = c.args in
    let w = c.read.new in
    let p = err_from_is_err_and c.from_residual.result c.from_residual.ensures.1 in
    rw (p.1, p.2) (
      record {
        answer = _;
        allowed = sym (finish_5 a.t.now a.b.now a.action a.values.now c.requires w.from w.kept w.tokens c.read.result
            c.read.ensures c.in_err-ended.field-0.0 c.in_err-ended.was);
        reply = (refl, refl);
      },
      tt,
    )

pub returns-then-ended : goal.returns-then-ended
returns-then-ended c = let a = c.args in
    let w = c.read.new in
    let e : c.read.result ≡ Ok true = c.in_ok-ended.was ∙ ap Ok c.if-ended.true in (
      record {
        answer = _;
        allowed = sym (finish_6 a.t.now a.b.now a.action a.values.now c.requires w.from w.kept w.tokens c.read.result c.read.ensures e);
        reply = (refl, refl);
      },
      tt,
    )

-- the marking, which is live
module _ (c : Else-ended) where
  its-marking : LiveMarking c.args.t.now c.args.b.now (held_of c.read.new.from c.read.new.kept c.read.new.tokens)
  its-marking =
      let t = c.args.t.now in
      let r = c.read in
      let w = r.new in
      let n = lengths_up w.from w.kept w.tokens (omega (arith, r.auto)) (omega (arith, r.auto)) (omega (arith, r.auto)) in
      let e : r.result ≡ Ok false = c.in_ok-ended.was ∙ ap Ok c.if-ended.false in
      live_up t c.args.b.now w.from w.kept w.tokens r.result r.ensures (read-good t c.requires) n e

pub running-requires : goal.running-requires
running-requires c =
    let l = its-marking (goal.at.running-requires c).Else-ended in
    (read-spans c.args.t.now c.requires, omega (arith, nodes_most c.args.t.now c.requires, l.lengths.kept-long))

pub returns-in_err-running : goal.returns-in_err-running
returns-in_err-running c = let a = c.args in
    let l = its-marking (goal.at.returns-in_err-running c).Else-ended in
    let r = c.from_residual-in_err-running in
    let p = err_from_is_err_and r.result r.ensures.1 in
    rw (p.1, p.2) (
      record {
        answer = _;
        allowed = sym (finish_14 a.t.now a.b.now a.action a.values.now c.requires l c.wide-a.ensures.0 _ _ (c.in_err-running.ensures l.current l.held.running));
        reply = (refl, refl);
      },
      tt,
    )

-- in which the action runs
module _ (c : In_ok-running) where
  runs : (l : LiveMarking c.args.t.now c.args.b.now (held_of c.read.new.from c.read.new.kept c.read.new.tokens)) → runs_in c.args.t.now l.current c.wide-a.result ≡ true
  runs l = need-passed 14 (runs_in c.args.t.now l.current c.wide-a.result) (c.in_ok-running.ensures l.current l.held.running)

pub conclude-requires : goal.conclude-requires
conclude-requires c =
    let t = c.args.t.now in
    let l = its-marking (goal.at.conclude-requires c).Else-ended in
    let n = running-node t l.current c.wide-a.result (runs (goal.at.conclude-requires c).In_ok-running l) in
    (c.requires, omega (arith, n.0, (read-spans t c.requires).nodes-read), n.1, l)

pub returns : goal.returns
returns c =
    let a = c.args in
    let l = its-marking (goal.at.returns c).Else-ended in
    let d = c.conclude in (
      finish-leaves a.t.now a.b.now a.action a.values.now c.requires l c.wide-a.ensures.0 (runs (goal.at.returns c).In_ok-running l) _ a.out.now
          d.new.out (d.ensures.0 l),
      d.ensures.1,
    )
