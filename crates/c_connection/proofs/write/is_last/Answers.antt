use Rattle.base_integers.specs.Signed.{word_of}
use Rattle.c_connection.proofs.Steps.{unseen, seen}
use Rattle.c_connection.proofs.write.is_last.Goals as goal

pub returns-then-bytes-eq0 : goal.returns-then-bytes-eq0
returns-then-bytes-eq0 c = let z = c.args in unseen z.bytes.now (word_of z.sequence) c.if-bytes-eq0.true

pub returns : goal.returns
returns c = let z = c.args in seen z.bytes.now (word_of z.sequence) c.if-bytes-eq0.false c.signed_at.ensures
