use native.Mathlib.Omega.{arith}
use Rattle.reply_log_body.specs.LogLaws.{limits-law}
use Rattle.reply_log_body.proofs.push_limits.Goals as goal

pub returns : goal.returns
returns c = (
  limits-law c.push_head.ensures.0 c.push_sizes-d.ensures.0 c.push_int-c.ensures.0 c.push_int-b.ensures.0 c.push_int-a.ensures.0,
  omega arith,
)
