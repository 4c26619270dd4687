-- How long the tables of the cases are at most: with one node and one edge more than the limits allow. Assumes nothing.
use Rattle.std.specs.Prelude.{ℕ, ◌+◌, ◌*◌}
use Rattle.paper.specs.Limits.{limits}

abbrev pub most_table : ℕ
most_table = 5 + 4 * (limits.most_nodes + 1) + 4 * (limits.most_edges + 1)
