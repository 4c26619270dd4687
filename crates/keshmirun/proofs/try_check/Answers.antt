-- `try_check` answers what the reader of the table answers: its refusal, or nothing written. Assumes nothing.
use mathlib.Core.List.{[]}
use mathlib.Core.Path.{refl, sym}
use native.Mathlib.Omega.{arith}
use Rattle.std.proofs.lemmas.Result.{err_from_is_err_and}
use Rattle.paper.specs.Answers.{good}
use Rattle.keshmirun.proofs.Ladders.{check-refused, check-good}
use Rattle.keshmirun.proofs.try_check.Goals as goal

pub returns-in_err-read : goal.returns-in_err-read
returns-in_err-read c =
    let p = err_from_is_err_and c.from_residual.result c.from_residual.ensures.1 in
    rw (p.1, p.2) (record { answer = _; allowed = check-refused c.args.table.now _ _ (sym c.in_err-read.ensures); reply = (refl, refl) }, tt)

pub returns : goal.returns
returns c = (record { answer = good []; allowed = check-good c.args.table.now _ (sym c.in_ok-read.ensures); reply = (refl, refl) }, omega arith)
