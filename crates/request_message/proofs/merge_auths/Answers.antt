use Rattle.request_message.proofs.Sealing.{auths-law}
use Rattle.request_message.proofs.merge_auths.Goals as goal

pub returns : goal.returns
returns c s =
    let a = c.args in
    let x0 = c.later in
    let x1 = c.later_part in
    auths-law s a.before a.after x0.result x1.result x0.ensures x1.ensures
