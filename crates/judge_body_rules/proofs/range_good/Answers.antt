use Rattle.std.proofs.Common.{arith}
use Rattle.std.proofs.lemmas.Grind.{common_steps}
use Rattle.judge_body_rules.specs.BodyRuleLaws.{by-range-lengths}
use Rattle.judge_body_rules.proofs.range_good.Goals as goal

pub returns-then-end-le64 : goal.returns-then-end-le64
returns-then-end-le64 c = λ g l. by-range-lengths l _ (grind (arith, common_steps))

pub returns-else-end-le64 : goal.returns-else-end-le64
returns-else-end-le64 c = λ g l. by-range-lengths l _ (grind (arith, common_steps))
