use native.Mathlib.Omega.{arith}
use Rattle.store_arrange.specs.BroughtLaws.{renaming-start, renaming-more, renaming-all}
use Rattle.store_arrange.proofs.rename.Goals as goal

pub loop-x-init : goal.loop-x-init
loop-x-init c = renaming-start _ _ _

pub loop-x-preserved : goal.loop-x-preserved
loop-x-preserved c =
    let n = c.loop-x.invariant.long in
    renaming-more _ _ _ _ c.loop-x.x-index _ (omega arith) c.now_at.ensures c.loop-x.invariant

pub returns : goal.returns
returns c = let n = c.loop-x.invariant.long in renaming-all _ _ _ _ c.loop-x.x-index (omega arith) c.loop-x.invariant
