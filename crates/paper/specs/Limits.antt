-- The sizes that the paper sets for tables, markings and offers, in one place; how much the program reads stands with it (Program). Assumes nothing.
use Rattle.std.specs.Prelude.{ℕ}

pub record Limits : Type 0 where
  -- "node count n .., edge count e ..": how many a table may have
  pub most_nodes : ℕ
  pub most_edges : ℕ
  -- how many bytes a marking "may now take"
  pub longest_marking : ℕ
  -- "Upper: 1 to 16"; a value list's "count over 16" is the same limit
  pub most_upper : ℕ
  -- "No chain of 16 control nodes": the shortest that may not be
  pub chain_too_long : ℕ
  -- "So .. a path has at most 16 edges."
  pub longest_path : ℕ
  -- "at most 64 offers, 8 paths in an offer, 20 ends"
  pub most_offers : ℕ
  pub most_paths : ℕ
  pub most_ends : ℕ

-- limits for so many nodes, edges and bytes of a marking. "Chains, offers, paths and ends keep their sizes."
abbrev pub limits_for : ℕ → ℕ → ℕ → Limits
limits_for n e b = record {
  most_nodes = n;
  most_edges = e;
  longest_marking = b;
  most_upper = 16;
  chain_too_long = 16;
  longest_path = 16;
  most_offers = 64;
  most_paths = 8;
  most_ends = 20;
}

-- wish 6: "Raise nodes to 120 and edges to 200", "A marking may now take up to 8,192 bytes"
abbrev pub limits : Limits
limits = limits_for 120 200 8192
