use Rattle.std.proofs.Common.{arith}
use Rattle.std.proofs.lemmas.Grind.{common_steps}
use Rattle.judge_body_rules.specs.BodyRuleLaws.{by_lengths}
use Rattle.judge_body_rules.proofs.key_value_good.Goals as goal

pub returns-then-old-le16 : goal.returns-then-old-le16
returns-then-old-le16 c = λ k l. by_lengths l _ (grind (arith, common_steps))

pub returns-else-old-le16 : goal.returns-else-old-le16
returns-else-old-le16 c = λ k l. by_lengths l _ (grind (arith, common_steps))
