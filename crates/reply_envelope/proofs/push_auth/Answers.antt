use native.Mathlib.Omega.{arith}
use mathlib.Core.Path.{ap}
use Rattle.base_integers.specs.SignedLaws.{word_kept}
use Rattle.fields_encoding.specs.Encode.{int_field}
use Rattle.fields_write_bytes.proofs.PushedLaws.{again}
use Rattle.reply_envelope.specs.FramesLaws.{auth-law}
use Rattle.reply_envelope.proofs.push_auth.Goals as goal

pub returns : goal.returns
returns c = (
  auth-law _ _ c.push_int.ensures.0 c.push_head-d.ensures.0 (again (ap (int_field 1) (word_kept c.args.identity c.ranges.identity.sfits)) c.push_signed-c.ensures.0)
      c.push_raw-b.ensures.0,
  omega arith,
)
