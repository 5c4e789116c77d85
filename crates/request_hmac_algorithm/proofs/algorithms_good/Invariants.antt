use Rattle.request_hmac_algorithm.proofs.Algorithms.{Judging}
use Rattle.request_hmac_algorithm.proofs.algorithms_good.Given as goal

abbrev pub invariant-loop-part : goal.invariant-loop-part
invariant-loop-part l = Judging l.s l.initial.left l.left

abbrev pub decreases-loop-part : goal.decreases-loop-part
decreases-loop-part l = l.left.len
