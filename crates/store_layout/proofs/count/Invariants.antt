use Prim.Native.Nat.{◌+◌, ◌-◌, ◌*◌, ◌≤◌}
use mathlib.Core.Path.{◌≡◌}
use lib.ListN.{length, drop}
use Rattle.store_layout.specs.Store.{entries_from, entries_of}
use Rattle.store_layout.proofs.count.Given as goal

abbrev pub invariant-loop-i : goal.invariant-loop-i
invariant-loop-i l = (l.n * 512 ≤ length l.store) × (l.i + length (entries_from (l.n - l.i) (drop (l.i * 512) l.store)) ≡ length (entries_of l.store))
