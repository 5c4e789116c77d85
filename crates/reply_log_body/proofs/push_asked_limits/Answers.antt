use native.Mathlib.Omega.{arith}
use Rattle.fields_write_bytes.proofs.PushedLaws.{pushed_none, again}
use Rattle.reply_log_body.specs.LogLaws.{limits-asked, limits-left}
use Rattle.reply_log_body.proofs.push_asked_limits.Goals as goal

pub returns-then-asked : goal.returns-then-asked
returns-then-asked c =
    let w = c.push_limits.ensures in
    (again (limits-asked c.args.asked c.if-asked.true) w.0, w.1)

pub returns : goal.returns
returns c =
    (again (limits-left c.args.asked c.if-asked.false) (pushed_none _ _ c.requires.1), omega arith)
