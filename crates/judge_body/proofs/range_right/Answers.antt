use Rattle.protocol.specs.Judge.{range_good}
use Rattle.request_parts.specs.Views.{range_view}
use Rattle.judge_body.proofs.Parts.{there, range-lengths}
use Rattle.judge_body.proofs.range_right.Goals as goal

pub returns-then-ranged : goal.returns-then-ranged
returns-then-ranged c s l =
    let a = c.args in
    let n = c.number_or in
    there range_good a.ranged (range_view s a.g) c.if-ranged.true
    (c.range_good.ensures (range_view s a.g) (range-lengths s a.g n.result l n.ensures))
