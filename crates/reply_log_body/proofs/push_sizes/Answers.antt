use native.Mathlib.Omega.{arith}
use Rattle.reply_log_body.specs.LogLaws.{sizes-law}
use Rattle.reply_log_body.proofs.push_sizes.Goals as goal

pub returns : goal.returns
returns c = (
  sizes-law c.push_int.ensures.0 c.push_int-c.ensures.0 c.push_int-b.ensures.0 c.push_int-a.ensures.0,
  omega arith,
)
