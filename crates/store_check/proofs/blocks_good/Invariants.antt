use Prim.Native.Nat.{◌*◌, ◌-◌}
use mathlib.Core.List.{[]}
use lib.ListN.{drop}
use Rattle.store_layout.specs.Check.{GoodFrom}
use Rattle.store_check.proofs.blocks_good.Given as goal

abbrev pub invariant-loop-i : goal.invariant-loop-i
invariant-loop-i l = (GoodFrom [] l.store l.n → GoodFrom l.last (drop (l.i * 512) l.store) (l.n - l.i)) × (GoodFrom l.last (drop (l.i * 512) l.store) (l.n - l.i) → GoodFrom [] l.store l.n)
