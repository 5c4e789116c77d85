use Rattle.std.proofs.Common.{arith}
use Rattle.signature_sha1_compression.specs.RingLaws.{takes-later}
use Rattle.signature_sha1_compression.proofs.make_word.Goals as goal

pub returns : goal.returns
returns c =
    let s = c.before.before.before.before.before in
    takes-later s.args.w.now s.args.t _ _ s.requires (omega arith) c.rotate_left-made.ensures
