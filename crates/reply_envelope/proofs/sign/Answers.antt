use Rattle.std.proofs.Common.{ap, ◌∙◌}
use Rattle.signature_sha1.specs.Sha1.{Answer}
use Rattle.signature_hmac.specs.HmacLaws.{refused_number}
use Rattle.reply_envelope.specs.FramesLaws.{made, never-made}
use Rattle.reply_envelope.proofs.sign.Goals as goal

pub returns-in-Ok : goal.returns-in-Ok
returns-in-Ok c =
    let k = c.args in
    c.bytes.ensures ∙ ap (λ (a : Answer). a.digest) (c.in-Ok.ensures ∙ made k.key.now k.text.now c.requires.0 c.requires.1)

pub returns-in-Err : goal.returns-in-Err
returns-in-Err c = let k = c.args in absurd (never-made k.key.now k.text.now c.requires.0 c.requires.1 _ c.in-Err.ensures (refused_number _))
