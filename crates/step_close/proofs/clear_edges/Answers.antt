-- `clear_edges`: one edge after the other. Assumes nothing.
use mathlib.Core.Path.{◌≡◌, refl}
use native.Mathlib.Omega.{arith}
use Rattle.marking_held.proofs.Fillings.{filled_none, filled_set}
use Rattle.step_close.proofs.clear_edges.Goals as goal

pub loop-j-init : goal.loop-j-init
loop-j-init c = (filled_none (λ j. 0) c.args.tokens.now)

pub loop-j-preserved : goal.loop-j-preserved
loop-j-preserved c = let f = c.loop-j.invariant in
    (filled_set f 0 (omega (arith, f.long, c.requires, c.loop-j-test.true)) refl)

pub returns : goal.returns
returns c = let e : c.loop-j.j ≡ c.args.table.edges = omega arith in rw (← e) c.loop-j.invariant
