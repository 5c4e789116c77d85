use Rattle.request_log_types.proofs.Walk.{Walk}
use Rattle.request_log_types.proofs.types_in.Given as goal

abbrev pub invariant-loop-value : goal.invariant-loop-value
invariant-loop-value l = Walk l.s l.initial.left l.left l.initial.mask l.mask

abbrev pub decreases-loop-value : goal.decreases-loop-value
decreases-loop-value l = l.left.len
