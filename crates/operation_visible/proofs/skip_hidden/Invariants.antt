use Prim.Native.Nat.{◌+◌, ◌≤◌}
use mathlib.Core.Path.{◌≡◌}
use Rattle.store_layout.specs.Store.{entries_of}
use Rattle.operation_visible.specs.Runs.{skipped}
use Rattle.operation_visible.specs.Seen.{seen_by}
use Rattle.operation_visible.proofs.skip_hidden.Given as goal

abbrev pub invariant-loop-left : goal.invariant-loop-left
invariant-loop-left l = (l.left.first + l.left.count ≤ 256) × (skipped (seen_by l.device l.viewer l.permission) (entries_of l.store) l.left ≡ skipped (seen_by l.device l.viewer l.permission) (entries_of l.store) l.initial.left)

abbrev pub decreases-loop-left : goal.decreases-loop-left
decreases-loop-left l = l.left.count
