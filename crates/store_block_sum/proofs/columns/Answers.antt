use mathlib.Core.Path.{refl, subst}
use Prim.Native.Nat.{ℕ}
use native.Mathlib.Nat.{le_antisymm}
use native.Mathlib.Omega.{arith}
use Rattle.store_block_sum.specs.Sum.{Columns}
use Rattle.store_block_sum.specs.SumLaws.{columns-more}
use Rattle.store_block_sum.proofs.columns.Goals as goal

pub loop-k-init : goal.loop-k-init
loop-k-init c = record { long = refl; each = λ k h. absurd (omega arith) }

pub loop-k-preserved : goal.loop-k-preserved
loop-k-preserved c = let l = c.loop-k in columns-more _ l.c l.k _ _ c.loop-k-test.true l.invariant c.column-x.ensures

pub returns : goal.returns
returns c = let l = c.loop-k in subst (λ (n : ℕ). Columns c.args.b.now n l.c) (le_antisymm l.auto.k-end c.loop-k-test.false) l.invariant
