-- `gain`: one node after the other, each behind the one before. The invariant: what is stored is no more than the ends of the word below. Assumes nothing.
use Rattle.step_gain.proofs.Gaining.{Laid}
use Rattle.step_gain.proofs.gain.Given as goal

abbrev pub invariant-loop-i : goal.invariant-loop-i
invariant-loop-i l =
    Laid l.ends.target l.ends.row l.value l.w l.n l.initial.extra l.initial.place l.initial.more l.extra l.place l.more l.to l.i
