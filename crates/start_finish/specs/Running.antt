-- Row 14: whether an action runs in a marking. Assumes nothing.
use Rattle.std.specs.Prelude.{ℕ, Bool, ◌&&◌, List, ltb}
use Rattle.paper.specs.Table.{nodes, kind, is_action}
use Rattle.paper.specs.Marking.{Marking}

-- a is "a running action"
abbrev pub runs_in : List ℕ → Marking → ℕ → Bool
runs_in t m a = ltb a (nodes t) && is_action (kind t a) && m.runs a
