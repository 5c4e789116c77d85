use mathlib.Core.Path.{sym, ◌∙◌}
use Rattle.request_merged.specs.Types.{log_types}
use Rattle.perform_log.specs.LoggedLaws.{sent-device, sent-parts}
use Rattle.perform_log.proofs.get_log.Goals as goal

pub returns-then-asks : goal.returns-then-asks
returns-then-asks c =
    λ t p q.
    sent-device t (log_types c.args.command.now) c.args.reply_to c.args.signing_key.now (sym (c.asks.ensures (log_types c.args.command.now) c.log_types-types.ensures) ∙ c.if-asks.true)
    (c.status.ensures t)

pub returns : goal.returns
returns c =
    let ts = log_types c.args.command.now in
    let is = c.log_types-types.ensures in
    λ t p q.
    sent-parts t ts c.args.reply_to c.args.signing_key.now p q (sym (c.asks.ensures ts is) ∙ c.if-asks.false) (c.asks-2.ensures ts is) (c.asks-3.ensures ts is)
    (c.asks-4.ensures ts is) (c.asks-5.ensures ts is) c.put_log.ensures
