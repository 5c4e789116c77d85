use native.Mathlib.Omega.{arith}
use Rattle.fields_write_bytes.proofs.PushedLaws.{pushed_none, again}
use Rattle.protocol.specs.Judge.{capacity_of}
use Rattle.reply_log_body.specs.LogLaws.{capacity-asked, capacity-left}
use Rattle.reply_log_body.proofs.push_asked_capacity.Goals as goal

pub returns-then-asked : goal.returns-then-asked
returns-then-asked c =
    let a = c.args in
    let w = c.push_capacity.ensures in
    (again (capacity-asked a.asked (capacity_of a.store.now) c.if-asked.true) w.0, w.1)

pub returns : goal.returns
returns c =
    (again (capacity-left c.args.asked (capacity_of c.args.store.now) c.if-asked.false) (pushed_none _ _ c.requires.2), omega arith)
