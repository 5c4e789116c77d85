use Prim.Native.Nat.{◌-◌}
use lib.ListN.{length}
use Rattle.fields_decode.proofs.Storing.{Going}
use Rattle.fields_decode.proofs.slots.collect.Given as goal

abbrev pub invariant-loop-at : goal.invariant-loop-at
invariant-loop-at l = Going l.kind l.s l.seen l.value l.len l.at

abbrev pub decreases-loop-at : goal.decreases-loop-at
decreases-loop-at l = length l.s - l.at
