use mathlib.Core.Path.{◌∙◌, sym}
use Rattle.store_block.specs.DecidesLaws.{says-no, decides-by}
use Rattle.store_layout.specs.Size.{SizeGood}
use Rattle.store_layout.proofs.SizeLaws.{size-decides, good-size}
use Rattle.store_layout.proofs.CheckLaws.{good-from, from-good, is-test}
use Rattle.store_check.proofs.check.Goals as goal
use Rattle.store_check.proofs.check.Goals.{Else-not-size_good}

sized : (c : Else-not-size_good) → SizeGood c.args.store.now
sized c = (size-decides _).yes (sym c.size_good.ensures ∙ c.if-not-size_good.false)

pub returns-then-not-size_good : goal.returns-then-not-size_good
returns-then-not-size_good c = is-test _ _ (says-no (λ g. (size-decides _).no (sym c.size_good.ensures ∙ c.if-not-size_good.true) (good-size _ g)))

pub blocks_good-requires : goal.blocks_good-requires
blocks_good-requires c = let s = sized (goal.at.blocks_good-requires c).Else-not-size_good in sym s.whole

pub returns : goal.returns
returns c = let s = sized (goal.at.returns c).Else-not-size_good in
    is-test _ _ (decides-by (from-good _ s.some s.most) (good-from _) c.blocks_good.ensures)
