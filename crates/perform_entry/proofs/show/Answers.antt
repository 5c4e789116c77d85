use mathlib.Core.Path.{sym, ap, subst}
use Rattle.protocol.specs.State.{State}
use Rattle.protocol.specs.Judge.{shown}
use Rattle.operation_get.specs.Shown.{Shown, PartsInside, entry_shown}
use Rattle.reply_send.specs.SentLaws.{sent-as}
use Rattle.perform_entry.proofs.show.Goals as goal

pub show_entry-requires : goal.show_entry-requires
show_entry-requires c =
    (c.requires.0, c.requires.1, subst (λ (r : Shown). PartsInside c.args.store.now r) c.in-Some.is c.requires.2)

pub returns-in-Some : goal.returns-in-Some
returns-in-Some c =
    λ (s : State).
    sent-as c.args.reply_to c.args.signing_key.now (sym (ap (λ (r : Shown). shown s c.args.metadata (entry_shown c.args.store.now r)) c.in-Some.is))
    (c.show_entry.ensures s)

pub returns-in-None : goal.returns-in-None
returns-in-None c =
    λ (s : State).
    sent-as c.args.reply_to c.args.signing_key.now (sym (ap (λ (r : Shown). shown s c.args.metadata (entry_shown c.args.store.now r)) c.in-None.is))
    (c.status.ensures s)
