use mathlib.Core.Path.{ap, ◌∙◌}
use Rattle.protocol.specs.Judge.{broken}
use Rattle.judge_body.proofs.log_code.Goals as goal

pub returns-in-GetLog : goal.returns-in-GetLog
returns-in-GetLog c e = c.broken.ensures ∙ ap broken c.log_right.ensures

pub returns-in_default : goal.returns-in_default
returns-in_default c e = absurd (c.in_default.not-GetLog e)
