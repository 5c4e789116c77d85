use mathlib.Core.List.{[]}
use Rattle.protocol.specs.State.{State}
use Rattle.protocol.specs.Judge.{succeeds, key_value}
use Rattle.reply_send.specs.SentLaws.{sends}
use Rattle.reply_send.proofs.send.key_value_reply.Goals as goal

pub returns : goal.returns
returns c =
    λ (s : State).
    sends c.args.reply_to c.args.signing_key.now (succeeds s (key_value [] c.args.version.now [] 0) []) c.put_key_value.ensures
