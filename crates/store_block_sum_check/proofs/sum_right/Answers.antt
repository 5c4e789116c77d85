use Rattle.store_block.specs.DirectLaws.{held-decides}
use Rattle.store_block_sum_check.proofs.sum_right.Goals as goal

pub returns : goal.returns
returns c = held-decides _ c.requires c.sum.ensures.0 c.held.ensures
