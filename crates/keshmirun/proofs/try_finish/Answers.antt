-- `try_finish`: the table's refusals, then what is left of a table that was read. Assumes nothing.
use mathlib.Core.Path.{refl, sym}
use Rattle.std.proofs.lemmas.Result.{err_from_is_err_and}
use Rattle.keshmirun.proofs.Ladders.{finish-refused}
use Rattle.keshmirun.proofs.try_finish.Goals as goal

pub returns-in_err-x : goal.returns-in_err-x
returns-in_err-x c =
    let a = c.args in
    let p = err_from_is_err_and c.from_residual.result c.from_residual.ensures.1 in
    rw (p.1, p.2) (record { answer = _; allowed = sym (finish-refused a.table.now a.marking.now a.action a.values.now _ _ (sym c.in_err-x.ensures)); reply = (refl, refl) }, tt)

pub finish-requires : goal.finish-requires
finish-requires c = sym c.in_ok-x.ensures
