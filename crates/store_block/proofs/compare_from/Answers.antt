use native.Mathlib.Omega.{arith}
use mathlib.Core.Path.{◌∙◌, refl, sym}
use Rattle.store_block.specs.OrderLaws.{at_same, at_differ, at_end}
use Rattle.store_block.proofs.compare_from.Goals as goal

pub loop-i-init : goal.loop-i-init
loop-i-init c = refl

pub returns-then-x-y : goal.returns-then-x-y
returns-then-x-y c = c.cmp.ensures ∙ at_differ _ _ c.loop-i.i (omega arith) (omega arith) c.if-x-y.true ∙ c.loop-i.invariant

pub loop-i-preserved : goal.loop-i-preserved
loop-i-preserved c = sym (at_same _ _ c.loop-i.i (omega arith) (omega arith) c.if-x-y.false) ∙ c.loop-i.invariant

pub returns : goal.returns
returns c = c.cmp-2.ensures ∙ at_end _ _ c.loop-i.i (omega arith) ∙ c.loop-i.invariant
