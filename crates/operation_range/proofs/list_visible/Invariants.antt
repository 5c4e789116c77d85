use Prim.Native.Nat.{◌+◌, ◌≤◌}
use mathlib.Core.Path.{◌≡◌}
use Rattle.store_layout.specs.Store.{entries_of}
use Rattle.access_permission.specs.Permissions.{RANGE}
use Rattle.operation_visible.specs.Seen.{seen_by}
use Rattle.operation_range.specs.Keys.{listed_of}
use Rattle.operation_range.proofs.list_visible.Given as goal

abbrev pub invariant-loop-n : goal.invariant-loop-n
invariant-loop-n l = (l.rest.first + l.rest.count ≤ 256)
    × (listed_of (seen_by l.device l.viewer RANGE) (entries_of l.store) l.most l.places l.n l.rest ≡ listed_of (seen_by l.device l.viewer RANGE) (entries_of l.store) l.most l.initial.places 0 l.initial.rest)
