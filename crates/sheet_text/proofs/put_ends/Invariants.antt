-- `put_ends` goes from end to end: what is left of the sheet's ends is what is left to write. Assumes nothing.
use mathlib.Core.Path.{◌≡◌}
use Prim.Native.Nat.{◌+◌, ◌*◌, ◌-◌, ◌≤◌}
use Rattle.sheet_text.specs.Printed.{ends_over, ends_printed, EndsFit}
use Rattle.sheet_numbers.proofs.Writing.{Writing}
use Rattle.sheet_text.proofs.put_ends.Given as goal

abbrev pub invariant-loop-k : goal.invariant-loop-k
invariant-loop-k l = (l.next + 16 ≤ l.to + 4 * l.p) × (ends_over l.s l.p (l.n - l.k) ≡ ends_over l.s 4 l.n) × EndsFit l.t l.s l.p (l.n - l.k) × Writing l.initial.out l.to (ends_printed l.t l.s 4 0 l.n) (ends_printed l.t l.s l.p l.k (l.n - l.k)) l.out l.next
