use native.Mathlib.Omega.{arith}
use Rattle.reply_command.proofs.PartsLaws.{status-law}
use Rattle.reply_command.proofs.push_status.Goals as goal

pub returns : goal.returns
returns c = (status-law _ c.push_head.ensures.0 c.push_int-a.ensures.0, omega arith)
