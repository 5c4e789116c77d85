use Prim.Native.Nat.{◌*◌}
use mathlib.Core.Path.{◌≡◌}
use lib.ListN.{drop}
use Rattle.store_block.specs.Order.{cmp}
use Rattle.store_block.proofs.compare.Given as goal

abbrev pub invariant-loop-k : goal.invariant-loop-k
invariant-loop-k l = cmp (drop (4 * l.k) l.a) (drop (4 * l.k) l.b) ≡ cmp l.a l.b
