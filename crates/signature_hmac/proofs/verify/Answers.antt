use Rattle.std.proofs.Common.{ap, ◌∙◌}
use Rattle.base_definitions.specs.Lists.{same_bytes}
use Rattle.signature_hmac.specs.HmacLaws.{verified-by, never-verified}
use Rattle.signature_hmac.proofs.verify.Goals as goal

pub returns-in-Ok : goal.returns-in-Ok
returns-in-Ok c =
    let a = c.args in
    c.same.ensures ∙ ap (λ d. same_bytes d a.sent.now) c.bytes.ensures ∙ verified-by a.key.now a.text.now a.sent.now _ c.in-Ok.ensures

pub returns-in-Err : goal.returns-in-Err
returns-in-Err c = let a = c.args in never-verified a.key.now a.text.now a.sent.now _ c.in-Err.ensures
