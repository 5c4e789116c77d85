use Prim.Native.Nat.{◌+◌, ◌*◌, ◌≤◌}
use native.Mathlib.Omega.{arith}
use native.Mathlib.Nat.{le_antisymm}
use mathlib.Core.Path.{◌≡◌, ◌∙◌, ap, sym}
use lib.ListN.{get_or}
use Rattle.store_block_sum.specs.Sum.{eight}
use Rattle.store_block_sum.specs.SumLaws.{eight-none, eight-done, columns-add, product}
use Rattle.store_block_sum.proofs.sum.Goals as goal
use Rattle.store_block_sum.proofs.sum.Goals.{After-last, In-loop-k}

pub loop-k-init : goal.loop-k-init
loop-k-init c = (sym (eight-none _), omega arith)

-- the turn's column
abbrev Turn : Type 0
Turn = In-loop-k

all : (c : Turn) → get_or c.columns-c.result c.loop-k.k 0 ≤ 2040
all c = (c.columns-c.ensures.each c.loop-k.k c.loop-k-test.true).all_most

rows : (c : Turn) → get_or c.columns-c.result (c.loop-k.k + 64) 0 ≤ 7140
rows c = (c.columns-c.ensures.each c.loop-k.k c.loop-k-test.true).rows_most

times : (c : Turn) → get_or c.columns-c.result c.loop-k.k 0 * (c.loop-k.k + 1) ≤ 130560
times c = product _ _ (all c) c.loop-k-test.true

pub overflow_cast-s-in-loop-k-2 : goal.overflow_cast-s-in-loop-k-2
overflow_cast-s-in-loop-k-2 c = omega (arith, rows (goal.at.overflow_cast-s-in-loop-k-2 c).In-loop-k)

pub overflow_mul-s-in-loop-k : goal.overflow_mul-s-in-loop-k
overflow_mul-s-in-loop-k c = omega (arith, rows (goal.at.overflow_mul-s-in-loop-k c).In-loop-k)

pub overflow_add-s-in-loop-k-2 : goal.overflow_add-s-in-loop-k-2
overflow_add-s-in-loop-k-2 c = omega (arith, times (goal.at.overflow_add-s-in-loop-k-2 c).In-loop-k, rows (goal.at.overflow_add-s-in-loop-k-2 c).In-loop-k)

pub overflow_add-s-in-loop-k-3 : goal.overflow_add-s-in-loop-k-3
overflow_add-s-in-loop-k-3 c = omega (arith, times (goal.at.overflow_add-s-in-loop-k-3 c).In-loop-k, rows (goal.at.overflow_add-s-in-loop-k-3 c).In-loop-k)

pub loop-k-preserved : goal.loop-k-preserved
loop-k-preserved c =
    let l = c.loop-k in
    (columns-add _ _ l.k l.s c.loop-k-test.true c.requires c.columns-c.ensures l.invariant.0, omega (arith, times (goal.at.loop-k-preserved c).In-loop-k, rows (goal.at.loop-k-preserved c).In-loop-k))

whole : (c : After-last) → c.loop-k.s ≡ eight c.args.b.now 64
whole c = let l = c.loop-k in l.invariant.0 ∙ ap (eight _) (le_antisymm l.auto.k-end c.loop-k-test.false)

pub overflow_sub-result : goal.overflow_sub-result
overflow_sub-result c = omega (arith, whole (goal.at.overflow_sub-result c).After-last, eight-done c.args.b.now c.requires, c.last.ensures)

pub returns : goal.returns
returns c =
    let w = whole (goal.at.returns c).After-last in
    let d = eight-done c.args.b.now c.requires in
    let e = c.last.ensures in
    (omega arith, omega arith)
