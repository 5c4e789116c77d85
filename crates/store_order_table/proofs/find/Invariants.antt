use Prim.Native.Nat.{◌-◌, ◌≤◌}
use lib.ListN.{length}
use Rattle.store_layout.specs.Entries.{find_in}
use Rattle.store_order_table.specs.Table.{entries_at}
use Rattle.store_order_table.specs.Halving.{Between}
use Rattle.store_order_table.proofs.find.Given as goal

abbrev pub invariant-loop-lo : goal.invariant-loop-lo
invariant-loop-lo l = (l.lo ≤ l.hi) × (l.hi ≤ length l.order) × Between (find_in l.key (entries_at l.store l.order)) l.lo l.hi

abbrev pub decreases-loop-lo : goal.decreases-loop-lo
decreases-loop-lo l = l.hi - l.lo
