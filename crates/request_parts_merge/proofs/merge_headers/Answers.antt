use Rattle.request_parts_merge.proofs.Levels.{headers-law}
use Rattle.request_parts_merge.proofs.merge_headers.Goals as goal

pub returns : goal.returns
returns c =
    let a = c.args in
    let x0 = c.later in
    let x1 = c.later-2 in
    let x2 = c.later-3 in
    let x3 = c.later-4 in
    headers-law a.before a.after x0.result x1.result x2.result x3.result x0.ensures x1.ensures x2.ensures x3.ensures
