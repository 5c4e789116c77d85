use mathlib.Core.Path.{◌≡◌, ◌∙◌}
use Rattle.base_integers.specs.SignedLaws.{word_kept}
use Rattle.protocol.specs.State.{State, with_device}
use Rattle.request_scope.specs.Stands.{acls_in}
use Rattle.reply_send.specs.SentLaws.{sent-as}
use Rattle.perform.proofs.Results.{secured}
use Rattle.perform.proofs.secure.Goals as goal

pub returns : goal.returns
returns c =
    let v = c.cluster_version-version in
    λ (t : State) (q : t.device ≡ c.args.device.now).
    sent-as c.args.reply_to c.args.signing_key.now
    (secured (acls_in c.args.command.now c.args.security) c.security_table.ensures c.requires.3 (word_kept v.result v.type_inv ∙ v.ensures) t q)
    (c.status.ensures (with_device t _))
