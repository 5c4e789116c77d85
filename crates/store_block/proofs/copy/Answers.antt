use native.Mathlib.Omega.{arith}
use Rattle.store_block.specs.OverLaws.{over-part}
use Rattle.store_block.proofs.copy.Goals as goal

pub returns : goal.returns
returns c = over-part _ _ _ _ _ c.copy_from_slice.ensures.after (omega arith)
