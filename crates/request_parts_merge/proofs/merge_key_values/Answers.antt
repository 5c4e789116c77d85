use Rattle.request_parts_merge.proofs.Levels.{key-values-law}
use Rattle.request_parts_merge.proofs.merge_key_values.Goals as goal

pub returns : goal.returns
returns c s =
    let a = c.args in
    let x0 = c.later_part in
    let x1 = c.later_part-2 in
    let x2 = c.later_part-3 in
    let x3 = c.later_part-4 in
    let x4 = c.later in
    let x5 = c.later-2 in
    let x6 = c.later-3 in
    key-values-law s a.before a.after x0.result x1.result x2.result x3.result x4.result x5.result x6.result x0.ensures x1.ensures x2.ensures x3.ensures x4.ensures x5.ensures x6.ensures
