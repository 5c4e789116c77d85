use Rattle.store_arrange.specs.Brought.{Renaming}
use Rattle.store_arrange.proofs.rename.Given as goal

abbrev pub invariant-loop-x : goal.invariant-loop-x
invariant-loop-x l = Renaming l.j l.s l.initial.order l.x-index l.order
