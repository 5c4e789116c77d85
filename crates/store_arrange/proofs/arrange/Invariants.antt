use Rattle.store_arrange.specs.Arranging.{Arranging}
use Rattle.store_arrange.proofs.arrange.Given as goal

abbrev pub invariant-loop-j : goal.invariant-loop-j
invariant-loop-j l = Arranging l.initial.store l.initial.order l.used l.j l.store l.order
