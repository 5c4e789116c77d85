use borrow.Author.Tests.{le-leb, lt-leb}
use Rattle.signature_sha1.specs.Sha1.{sha1}
use Rattle.signature_hmac.specs.Hmac.{hmac_words, hmac, hmac_answer}
use Rattle.signature_hmac.proofs.hmac.Goals as goal

pub returns-then-key-gt128 : goal.returns-then-key-gt128
unfolding hmac_answer
returns-then-key-gt128 c = simp (lt-leb _ _ c.if-key-gt128.true)

pub returns-then-text-gt1048576 : goal.returns-then-text-gt1048576
unfolding hmac_answer
returns-then-text-gt1048576 c = simp (le-leb _ _ c.if-key-gt128.false, lt-leb _ _ c.if-text-gt1048576.true)

pub returns-then-key-le64 : goal.returns-then-key-le64
unfolding hmac_answer hmac hmac_words
returns-then-key-le64 c = simp (c.keyed.ensures, le-leb _ _ c.if-key-gt128.false, le-leb _ _ c.if-text-gt1048576.false, le-leb _ _ c.if-key-le64.true)

pub returns : goal.returns
unfolding hmac_answer hmac hmac_words sha1
returns c =
    simp (
      c.keyed-2.ensures,
      c.bytes-d.ensures,
      c.hash.ensures,
      le-leb _ _ c.if-key-gt128.false,
      le-leb _ _ c.if-text-gt1048576.false,
      lt-leb _ _ c.if-key-le64.false,
    )
