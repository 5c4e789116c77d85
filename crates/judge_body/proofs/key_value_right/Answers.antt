use Rattle.protocol.specs.Judge.{key_value_good}
use Rattle.request_parts.specs.Views.{key_value_view}
use Rattle.judge_body.proofs.Parts.{there, lengths}
use Rattle.judge_body.proofs.key_value_right.Goals as goal

pub returns-then-keyed : goal.returns-then-keyed
returns-then-keyed c s l =
    let a = c.args in
    there key_value_good a.keyed (key_value_view s a.k) c.if-keyed.true
    (c.key_value_good.ensures (key_value_view s a.k) (lengths s a.k l))
