-- `put_paths` goes from path to path: what is left of them is what is left to write. Assumes nothing.
use mathlib.Core.Path.{◌≡◌}
use Prim.Native.Nat.{◌+◌, ◌*◌, ◌-◌, ◌≤◌}
use Rattle.sheet_text.specs.Printed.{paths_over, paths_printed}
use Rattle.sheet_numbers.proofs.Writing.{Writing}
use Rattle.sheet_text.proofs.put_paths.Given as goal

abbrev pub invariant-loop-j : goal.invariant-loop-j
invariant-loop-j l = (l.next + 4 * l.start ≤ l.to + 4 * l.p) × (paths_over l.s l.p (l.m - l.j) ≡ paths_over l.s l.start l.m) × Writing l.initial.out l.to (paths_printed l.s l.start l.m) (paths_printed l.s l.p (l.m - l.j)) l.out l.next
