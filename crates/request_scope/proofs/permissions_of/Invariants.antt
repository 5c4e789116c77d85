use Rattle.request_scope.proofs.Walk.{Walk}
use Rattle.request_scope.proofs.permissions_of.Given as goal

abbrev pub invariant-loop-n : goal.invariant-loop-n
invariant-loop-n l = Walk l.s l.initial.left l.left l.mask l.n
