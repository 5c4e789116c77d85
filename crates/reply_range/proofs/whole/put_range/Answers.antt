use native.Mathlib.Omega.{arith}
use mathlib.Core.Path.{refl}
use lib.ListN.{take}
use Rattle.base_integers.specs.Signed.{word_of}
use Rattle.base_integers.specs.SignedLaws.{word_kept}
use Rattle.store_layout.specs.Store.{entries_of}
use Rattle.protocol.specs.Judge.{range}
use Rattle.reply_command.proofs.PartsLaws.{command-law}
use Rattle.reply_command.specs.Repeated.{ack_of, command_to}
use Rattle.reply_envelope.specs.FramesLaws.{no_value, signed-whole, copied}
use Rattle.operation_range.specs.Keys.{keys_at}
use mir.Syntax.{w64}
use mir.Val.{SFits}
use borrow.Author.Rules.{rules}
use Rattle.reply_range.proofs.whole.put_range.Goals as goal

pub returns : goal.returns
returns c =
    let a = c.args in
    let to = a.reply_to in
    let told : SFits w64 c.args.reply_to.identity = search rules in
    let end = c.finish-d in
    let body = range (keys_at (entries_of a.store.now) (take a.count a.places.now)) in
    let command = command-law (word_of to.connection) (ack_of to) to.kind body 1 c.push_header-c.ensures.0
    c.push_range-b.ensures.0
    c.push_status-a.ensures.0 in
    copied end.new.s end.result 3072 (omega arith)
    (signed-whole (command_to to body 1) _ (word_kept to.identity told.sfits) end.ensures.0 command (no_value 3072 _ refl))
    c.copy.ensures
