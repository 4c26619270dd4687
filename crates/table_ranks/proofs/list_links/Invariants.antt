-- `list_links` lists the edges between control nodes. The invariant: those of the edges passed are listed. Assumes nothing.
use mathlib.Core.Path.{◌≡◌}
use Prim.Native.Nat.{◌-◌, ◌≤◌}
use lib.ListN.{length}
use Rattle.table_ranks.specs.Chains.{Links}
use Rattle.table_ranks.proofs.list_links.Given as goal

abbrev pub invariant-loop-j : goal.invariant-loop-j
invariant-loop-j l = (l.n ≤ l.j) × ((length l.links ≡ length l.initial.links) × Links l.s l.links l.j l.n)
