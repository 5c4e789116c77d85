use mathlib.Core.Path.{◌≡◌, ap, ap₂, ◌∙◌}
use Rattle.protocol.specs.State.{State}
use Rattle.protocol.specs.Judge.{shown}
use Rattle.perform_get.specs.Sought.{sought}
use Rattle.perform_entry.specs.SlicesLaws.{cut-part}
use Rattle.reply_send.specs.SentLaws.{sent-as}
use Rattle.perform_get.proofs.get.Goals as goal

pub returns : goal.returns
returns c =
    λ (t : State) (q : t.store ≡ c.args.store.now).
    sent-as c.args.reply_to c.args.signing_key.now
    (ap₂ (shown t) c.flag_of.ensures (c.find_entry-found.ensures.same t q ∙ ap (sought c.args.which c.args.device.now t) (cut-part c.requires.3.key)))
    (c.show.ensures t)
