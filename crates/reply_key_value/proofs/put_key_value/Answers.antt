use native.Mathlib.Omega.{arith}
use Rattle.base_integers.specs.Signed.{word_of}
use Rattle.base_integers.specs.SignedLaws.{word_kept}
use Rattle.protocol.specs.Judge.{key_value}
use Rattle.reply_command.proofs.PartsLaws.{command-law}
use Rattle.reply_command.specs.Repeated.{ack_of, command_to}
use Rattle.reply_envelope.specs.FramesLaws.{signed-whole, copied}
use mir.Syntax.{w64}
use mir.Val.{SFits}
use borrow.Author.Rules.{rules}
use Rattle.reply_key_value.proofs.put_key_value.Goals as goal

pub returns : goal.returns
returns c =
    let a = c.args in
    let to = a.reply_to in
    let told : SFits w64 c.args.reply_to.identity = search rules in
    let end = c.finish-d in
    let body = key_value a.key.now a.version.now a.tag.now a.algorithm in
    let command = command-law (word_of to.connection) (ack_of to) to.kind body 1 c.push_header-c.ensures.0
    c.push_key_value-b.ensures.0
    c.push_status-a.ensures.0 in
    copied end.new.s end.result 1024 (omega arith)
    (signed-whole (command_to to body 1) _ (word_kept to.identity told.sfits) end.ensures.0 command
    c.push_bytes-end.ensures)
    c.copy.ensures
