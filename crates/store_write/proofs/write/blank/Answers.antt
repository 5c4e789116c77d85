use mathlib.Core.Path.{◌∙◌}
use lib.ListN.{length-replicate}
use Rattle.store_block.specs.OverLaws.{over-all}
use Rattle.store_write.proofs.write.blank.Goals as goal

pub returns : goal.returns
returns c = c.clear.ensures ∙ over-all _ _ (length-replicate _ 0)
