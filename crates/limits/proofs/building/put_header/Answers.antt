-- `put_header` answers where the edge after the last would start.
use native.Mathlib.Omega.{arith}
use Rattle.limits.proofs.Places.{edge-place}
use Rattle.limits.proofs.building.put_header.Goals as goal

pub write_head-requires : goal.write_head-requires
write_head-requires c = (omega (arith, edge-place _ _ _ c.edge_at-len.ensures), omega arith)

pub returns : goal.returns
returns c = edge-place _ _ _ c.edge_at-len.ensures
