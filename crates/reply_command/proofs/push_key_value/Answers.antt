use native.Mathlib.Omega.{arith}
use Rattle.reply_command.proofs.PartsLaws.{key_value-law}
use Rattle.reply_command.proofs.push_key_value.Goals as goal

pub returns : goal.returns
returns c =
    let a = c.args in
    let body = c.push_head.ensures in
    let head = c.push_head-e.ensures in
    let key = c.push_nonempty-d.ensures in
    let version = c.push_nonempty-c.ensures in
    let tag = c.push_nonempty-b.ensures in
    let algorithm = c.push_nonzero-a.ensures in (
      key_value-law a.key.now a.version.now a.tag.now a.algorithm body.0 head.0 key.0 version.0 tag.0 algorithm.0,
      omega (arith, body.1, head.1, key.1, version.1, tag.1, algorithm.1, c.requires.0, c.requires.1, c.requires.2),
    )
