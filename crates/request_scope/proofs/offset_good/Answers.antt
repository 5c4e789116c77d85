use Rattle.base_integers.specs.Signed.{word_of}
use Rattle.request_scope.proofs.Offsets.{offset-above, offset-below}
use Rattle.request_scope.proofs.offset_good.Goals as goal

pub returns-then-offset-ge0 : goal.returns-then-offset-ge0
returns-then-offset-ge0 c = offset-above (word_of c.args.offset) c.if-offset-ge0.true

pub returns-else-offset-ge0 : goal.returns-else-offset-ge0
returns-else-offset-ge0 c = offset-below (word_of c.args.offset) c.if-offset-ge0.false
