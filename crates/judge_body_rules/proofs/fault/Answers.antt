use mathlib.Core.Path.{◌∙◌}
use Prim.Native.Nat.{◌<◌, ◌≤◌}
use native.Mathlib.Omega.{arith}
use Rattle.judge_body_rules.specs.BodyParts.{most_value, part_fault}
use Rattle.judge_body_rules.specs.BodyRuleLaws.{over-long, not-long, by-checked}
use Rattle.judge_body_rules.proofs.fault.Goals as goal

pub returns-then-most_value-value : goal.returns-then-most_value-value
returns-then-most_value-value g c = let a = c.args in let k = g.C.Code.code in let e = c.most_value.ensures in let t = c.if-most_value-value.true in let h : most_value a.operation < a.value = omega arith in
    λ b v x. c.of.ensures ∙ over-long a.value (most_value a.operation) (part_fault a.operation (k a.pair) (k a.change) (k a.range) (k a.setup) (k a.log) (k a.security)) h ∙ by-checked a.operation b v x

pub returns : goal.returns
returns g c = let a = c.args in let k = g.C.Code.code in let e = c.most_value.ensures in let t = c.if-most_value-value.false in let h : a.value ≤ most_value a.operation = omega arith in
    λ b v x. c.part_fault.ensures ∙ not-long a.value (most_value a.operation) (part_fault a.operation (k a.pair) (k a.change) (k a.range) (k a.setup) (k a.log) (k a.security)) h ∙ by-checked a.operation b v x
