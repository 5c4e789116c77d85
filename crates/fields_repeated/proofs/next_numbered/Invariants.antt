use Prim.Native.Nat.{◌-◌}
use lib.ListN.{length}
use Rattle.fields_repeated.proofs.Seeking.{Seeking}
use Rattle.fields_repeated.proofs.next_numbered.Given as goal

abbrev pub invariant-loop-at : goal.invariant-loop-at
invariant-loop-at l = Seeking l.s l.n l.at

abbrev pub decreases-loop-at : goal.decreases-loop-at
decreases-loop-at l = length l.s - l.at
