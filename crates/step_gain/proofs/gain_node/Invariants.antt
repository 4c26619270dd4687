-- `gain_node`: one end after the other; the values are one run. Assumes nothing.
use mathlib.Core.Path.{◌≡◌}
use lib.ListN.{length}
use Rattle.step_gain.proofs.Gaining.{Gaining}
use Rattle.step_gain.proofs.gain_node.Given as goal

abbrev pub invariant-loop-k : goal.invariant-loop-k
invariant-loop-k l =
    (length l.extra ≡ length l.initial.extra) × Gaining l.target l.row l.value l.w l.i l.place l.initial.extra l.extra l.many l.k
