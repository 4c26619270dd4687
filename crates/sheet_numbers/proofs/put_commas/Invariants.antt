-- `put_commas` writes the first number, then each further one behind a comma. Assumes nothing.
use Prim.Native.Nat.{◌+◌, ◌*◌, ◌-◌, ◌≤◌}
use lib.ListN.{take, drop}
use Rattle.sheet_numbers.proofs.Writing.{Writing}
use Rattle.sheet_numbers.proofs.Decimals.{further}
use Rattle.sheet_numbers.proofs.put_commas.Given as goal

abbrev pub invariant-loop-k : goal.invariant-loop-k
invariant-loop-k l = (l.next + 4 ≤ l.initial.next + 4 * l.k) × Writing l.initial.out l.initial.next (further (take (l.n - 1) (drop (l.from + 1) l.s))) (further (take (l.n - l.k) (drop (l.from + l.k) l.s))) l.out l.next
