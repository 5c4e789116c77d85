use Prim.Native.Nat.{◌-◌, ◌*◌, ◌≤◌}
use mathlib.Core.Path.{◌≡◌}
use lib.ListN.{length, drop}
use Rattle.store_layout.specs.Store.{entries_from, entries_of}
use Rattle.store_layout.specs.Entries.{find_from, find_in}
use Rattle.store_find.proofs.find.Given as goal

abbrev pub invariant-loop-i : goal.invariant-loop-i
invariant-loop-i l = (l.n * 512 ≤ length l.store) × (find_from l.i l.key (entries_from (l.n - l.i) (drop (l.i * 512) l.store)) ≡ find_in l.key (entries_of l.store))
