use mathlib.Core.Path.{◌≡◌}
use lib.ListN.{drop}
use Rattle.store_block.specs.Order.{cmp}
use Rattle.store_block.proofs.compare_from.Given as goal

abbrev pub invariant-loop-i : goal.invariant-loop-i
invariant-loop-i l = cmp (drop l.i l.a) (drop l.i l.b) ≡ cmp (drop l.from l.a) (drop l.from l.b)
