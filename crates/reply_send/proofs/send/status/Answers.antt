use Rattle.protocol.specs.State.{State}
use Rattle.protocol.specs.Judge.{fails}
use Rattle.reply_send.specs.SentLaws.{sends}
use Rattle.reply_send.proofs.send.status.Goals as goal

pub returns : goal.returns
returns c =
    λ (s : State). sends c.args.reply_to c.args.signing_key.now (fails s c.args.code) c.put_status.ensures
