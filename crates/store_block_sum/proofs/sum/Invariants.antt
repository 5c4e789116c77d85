use Prim.Native.Nat.{◌*◌, ◌≤◌}
use mathlib.Core.Path.{◌≡◌}
use Rattle.store_block_sum.specs.Sum.{eight}
use Rattle.store_block_sum.proofs.sum.Given as goal

abbrev pub invariant-loop-k : goal.invariant-loop-k
invariant-loop-k l = (l.s ≡ eight l.b l.k) × (l.s ≤ l.k * 587520)
