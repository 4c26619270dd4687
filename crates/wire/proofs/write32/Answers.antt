-- `write32` writes over four bytes. Assumes nothing.
use mathlib.Core.Path.{◌∙◌}
use native.Mathlib.Omega.{arith}
use Rattle.wire.proofs.Laws.{put_mid_sets}
use Rattle.wire.proofs.write32.Goals as goal

pub returns : goal.returns
returns c = put_mid_sets _ _ _ _ _ (c.copy_from_slice.ensures.after ∙ c.to_be_bytes.ensures) (omega arith) (omega arith)
