use Rattle.request_parts_merge.proofs.Levels.{ranges-law}
use Rattle.request_parts_merge.proofs.merge_ranges.Goals as goal

pub returns : goal.returns
returns c s =
    let a = c.args in
    let x0 = c.later_part in
    let x1 = c.later_part-2 in
    let x2 = c.later in
    let x3 = c.later-2 in
    let x4 = c.later-3 in
    let x5 = c.later-4 in
    ranges-law s a.before a.after x0.result x1.result x2.result x3.result x4.result x5.result x0.ensures x1.ensures x2.ensures x3.ensures x4.ensures x5.ensures
