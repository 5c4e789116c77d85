use native.Mathlib.Omega.{arith}
use mathlib.Core.Path.{refl}
use Rattle.base_integers.specs.Signed.{word_of}
use Rattle.base_integers.specs.SignedLaws.{word_kept}
use Rattle.protocol.specs.Judge.{bare}
use Rattle.reply_command.proofs.PartsLaws.{bare-law}
use Rattle.reply_command.specs.Repeated.{ack_of, command_to}
use Rattle.reply_envelope.specs.FramesLaws.{no_value, signed-whole, copied}
use mir.Syntax.{w64}
use mir.Val.{SFits}
use borrow.Author.Rules.{rules}
use Rattle.reply_status.proofs.put_status.Goals as goal

pub returns : goal.returns
returns c =
    let a = c.args in
    let to = a.reply_to in
    let told : SFits w64 c.args.reply_to.identity = search rules in
    let end = c.finish-c in
    let command = bare-law (word_of to.connection) (ack_of to) to.kind a.code c.push_header-b.ensures.0
    c.push_status-a.ensures.0 in
    copied end.new.s end.result 256 (omega arith)
    (signed-whole (command_to to bare a.code) _ (word_kept to.identity told.sfits) end.ensures.0 command (no_value 256 _ refl))
    c.copy.ensures
