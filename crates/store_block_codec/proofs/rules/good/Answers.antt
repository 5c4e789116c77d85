use Rattle.store_block.specs.DecidesLaws.{decides-by}
use Rattle.store_block.specs.DirectLaws.{good-sum}
use Rattle.store_block_codec.proofs.rules.good.Goals as goal

pub returns-then-rules_kept : goal.returns-then-rules_kept
returns-then-rules_kept c = decides-by (c.rules_kept.ensures.yes c.if-rules_kept.true) (good-sum _) c.sum_right.ensures
