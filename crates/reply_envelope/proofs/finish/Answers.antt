use Prim.Native.Nat.{◌-◌}
use native.Mathlib.Omega.{arith}
use mathlib.Core.Path.{refl, ap₂}
use lib.ListN.{length}
use Rattle.base_integers.specs.Signed.{word_of}
use Rattle.base_integers.specs.SignedLaws.{word_kept}
use Rattle.fields_write_bytes.proofs.PushedLaws.{again}
use Rattle.reply_envelope.specs.Frames.{auth_bytes}
use Rattle.reply_envelope.specs.FramesLaws.{finish-law}
use Rattle.reply_envelope.proofs.finish.Goals as goal

pub returns : goal.returns
returns c =
    let a = c.args in
    let prefix = c.push_prefix.ensures in
    let auth = c.push_auth-b.ensures.0 in
    let head = c.push_head-a.ensures.0 in
    let digest = c.sign-h.ensures in (
      finish-law a.key.now (word_of a.identity) (length a.s.now - a.end) refl c.requires.3 prefix (again (ap₂ auth_bytes (word_kept a.identity c.ranges.identity.sfits) digest) auth) head,
      omega (arith, prefix.from, auth.from, head.from),
    )
