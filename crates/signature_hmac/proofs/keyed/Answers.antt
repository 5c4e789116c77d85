use Rattle.signature_sha1.specs.Sha1.{sha1}
use Rattle.signature_hmac.specs.Hmac.{keyed_words}
use Rattle.signature_hmac.proofs.keyed.Goals as goal

pub returns : goal.returns
unfolding keyed_words sha1
returns c =
    simp (
      c.hash_after-2.ensures,
      c.key_block-o.ensures,
      c.bytes-d.ensures,
      c.hash_after.ensures,
      c.key_block-i.ensures,
    )
