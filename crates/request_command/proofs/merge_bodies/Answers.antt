use Rattle.request_command.proofs.Levels.{bodies-law}
use Rattle.request_command.proofs.merge_bodies.Goals as goal

pub returns : goal.returns
returns c s =
    let a = c.args in
    let k1 = c.either in
    let x = c.merge_key_values in
    let k2 = c.either-2 in
    let y = c.merge_ranges in
    let k3 = c.either-3 in
    let w = c.later in
    let k6 = c.either-4 in
    let q = c.later_part in
    bodies-law s a.before a.after k1.result k2.result k3.result k6.result x.result y.result w.result q.result
    k1.ensures k2.ensures k3.ensures k6.ensures (x.ensures s) (y.ensures s) w.ensures q.ensures
