use borrow.Author.Tests.{lt-leb, le-leb}
use Rattle.access_record.specs.Table.{mask_good}
use Rattle.access_check.proofs.mask_good.Goals as goal

pub returns-then-mask-lt1 : goal.returns-then-mask-lt1
unfolding mask_good
returns-then-mask-lt1 c = simp (lt-leb _ _ c.if-mask-lt1.true)

pub returns-then-mask-gt1023 : goal.returns-then-mask-gt1023
unfolding mask_good
returns-then-mask-gt1023 c = simp (le-leb _ _ c.if-mask-lt1.false, lt-leb _ _ c.if-mask-gt1023.true)

pub returns : goal.returns
unfolding mask_good
returns c = simp (le-leb _ _ c.if-mask-lt1.false, le-leb _ _ c.if-mask-gt1023.false)
