use mathlib.Core.Path.{◌≡◌, ap, ◌∙◌}
use Rattle.protocol.specs.State.{State}
use Rattle.protocol.specs.Judge.{entry_of, version_shown}
use Rattle.perform_entry.specs.SlicesLaws.{cut-part}
use Rattle.reply_send.specs.SentLaws.{sent-as}
use Rattle.perform_get.proofs.get_version.Goals as goal

pub returns : goal.returns
returns c =
    λ (t : State) (q : t.store ≡ c.args.store.now).
    sent-as c.args.reply_to c.args.signing_key.now (ap (version_shown t) (c.get-found.ensures.same t q ∙ ap (entry_of t) (cut-part c.requires.3.key))) (c.show_version.ensures t)
