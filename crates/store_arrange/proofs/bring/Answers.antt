use native.Mathlib.Omega.{arith}
use native.Mathlib.Decide.{dec_lt}
use Prim.Native.Nat.{◌<◌}
use Rattle.store_arrange.specs.BroughtLaws.{brought, there-already}
use Rattle.store_arrange.proofs.bring.Goals as goal
use Rattle.store_arrange.proofs.bring.Goals.{Else-s-j}

-- the block to be brought stands further back
behind : (c : Else-s-j) → c.args.j < c.args.s
behind c =
    elim (dec_lt c.args.j c.args.s) [ yes p ↦ p | no p ↦ absurd (c.if-s-j.false (omega arith)) ]

pub returns-then-s-j : goal.returns-then-s-j
returns-then-s-j c = there-already _ _ _ _ c.if-s-j.true

pub overflow_mul-j : goal.overflow_mul-j
overflow_mul-j c = let b = behind (goal.at.overflow_mul-j c).Else-s-j in omega arith

pub overflow_mul-s : goal.overflow_mul-s
overflow_mul-s c = let g = c.well_formed in omega arith

pub exchange-requires : goal.exchange-requires
exchange-requires c = let b = behind (goal.at.exchange-requires c).Else-s-j in (omega arith, omega arith)

pub returns : goal.returns
returns c = let d = (goal.at.returns c).Else-s-j in
    brought c.args.store.now c.args.j c.args.s c.requires.2 (behind d) c.exchange.ensures c.rename.ensures
