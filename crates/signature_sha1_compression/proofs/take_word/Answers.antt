use Rattle.std.proofs.Common.{arith}
use Rattle.signature_sha1_compression.specs.RingLaws.{takes_first}
use Rattle.signature_sha1_compression.proofs.take_word.Goals as goal

pub returns-then-t-lt16 : goal.returns-then-t-lt16
returns-then-t-lt16 c =
    let a = c.args in
    takes_first a.w.now a.t _ c.if-t-lt16.true (omega arith)

pub returns : goal.returns
returns c = c.make_word.ensures
