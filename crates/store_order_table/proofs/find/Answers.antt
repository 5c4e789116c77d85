use Prim.Native.Nat.{ℕ, ◌+◌, ◌-◌, ◌*◌, ◌/◌, ◌≤◌, ◌<◌}
use native.Mathlib.Omega.{arith}
use mathlib.Core.Path.{◌≡◌, ◌∙◌, ap, sym}
use mathlib.Core.List.{List}
use lib.ListN.{length, drop, get_or}
use Rattle.store_block.specs.Order.{cmp}
use Rattle.store_block.specs.Entry.{Entry, no_entry}
use Rattle.store_block.specs.Block.{decode}
use Rattle.store_layout.proofs.CheckLaws.{key-at}
use Rattle.store_order_table.specs.Table.{entries_at}
use Rattle.store_order_table.specs.TableLaws.{length-entries, entry-at}
use Rattle.store_order_table.specs.HalvingLaws.{between-all, gap-left, half-below, half-above, here}
use Rattle.store_order_table.proofs.find.Goals as goal
use Rattle.store_order_table.proofs.find.Goals.{After-compare, After-wide-a}

abbrev M : ℕ → ℕ → ℕ
M lo hi = lo + (hi - lo) / 2

-- the block of the number in the middle lies inside the store
inside : (c : After-wide-a) → c.wide-a.result * 512 + 512 ≤ length c.args.store.now
inside c = let n = c.requires.0.each (M c.loop-lo.lo c.loop-lo.hi) (omega arith) in
    let w = c.wide-a.ensures.0 in
    omega arith

-- how the key stands to the one in the middle
stands : (c : After-compare) → c.compare.result ≡ cmp c.args.key.now (get_or (entries_at c.args.store.now c.args.order.now) (M c.loop-lo.lo c.loop-lo.hi) no_entry).key
stands c =
    let l = c.args.store.now in
    let o = c.args.order.now in
    let key = c.args.key.now in
    let m = M c.loop-lo.lo c.loop-lo.hi in
    c.compare.ensures
    ∙ ap (λ (k : List ℕ). cmp key k) (sym (key-at l (c.wide-a.result * 512) c.wide.result c.wide.ensures.0))
    ∙ ap (λ (e : Entry). cmp key e.key) (ap (λ (n : ℕ). decode (drop (n * 512) l)) c.wide-a.ensures.0 ∙ sym (entry-at l o m (omega arith)))

low : (l o : List ℕ) (lo hi : ℕ) → lo < hi → hi ≤ length o → M lo hi < length (entries_at l o)
low l o lo hi h i = let n = length-entries l o in omega arith

pub loop-lo-init : goal.loop-lo-init
loop-lo-init c = let a = c.args in
    let b = between-all a.key.now (entries_at a.store.now a.order.now) c.requires.1 in
    let n = length-entries a.store.now a.order.now in
    (omega arith, omega arith, record { low = b.low; high = let h = b.high in omega arith })

pub overflow_sub-m : goal.overflow_sub-m
overflow_sub-m c = omega arith

pub overflow_add-m : goal.overflow_add-m
overflow_add-m c = omega arith

pub bounds-order-m : goal.bounds-order-m
bounds-order-m c = omega arith

pub overflow_mul-a : goal.overflow_mul-a
overflow_mul-a c = let i = inside (goal.at.overflow_mul-a c).After-wide-a in omega arith

pub overflow_add-s : goal.overflow_add-s
overflow_add-s c = let i = inside (goal.at.overflow_add-s c).After-wide-a in omega arith

pub overflow_add-a : goal.overflow_add-a
overflow_add-a c = let i = inside (goal.at.overflow_add-a c).After-wide-a in omega arith

pub bounds-store-a : goal.bounds-store-a
bounds-store-a c = let i = inside (goal.at.bounds-store-a c).After-wide-a in omega arith

pub overflow_add-e : goal.overflow_add-e
overflow_add-e c = let i = inside (goal.at.overflow_add-e c).After-wide-a in omega arith

pub slice_bounds-compare-count : goal.slice_bounds-compare-count
slice_bounds-compare-count c = let i = inside (goal.at.slice_bounds-compare-count c).After-wide-a in omega arith

pub slice_bounds-compare-start : goal.slice_bounds-compare-start
slice_bounds-compare-start c = let i = inside (goal.at.slice_bounds-compare-start c).After-wide-a in omega arith

pub slice_bounds-compare-end : goal.slice_bounds-compare-end
slice_bounds-compare-end c = let i = inside (goal.at.slice_bounds-compare-end c).After-wide-a in omega arith

pub loop-lo-smaller-in-Less : goal.loop-lo-smaller-in-Less
loop-lo-smaller-in-Less c = omega arith

pub loop-lo-preserved-in-Less : goal.loop-lo-preserved-in-Less
loop-lo-preserved-in-Less c = let e = (goal.at.loop-lo-preserved-in-Less c).After-compare in
    let a = c.args in
    let d = c.loop-lo in
    let h = low a.store.now a.order.now d.lo d.hi c.loop-lo-test.true d.invariant.1 in
    (omega arith, omega arith, half-below a.key.now (entries_at a.store.now a.order.now) d.lo d.hi (M d.lo d.hi) c.requires.1 h d.invariant.2 (sym (stands e) ∙ c.in-Less.is))

pub returns-in-Equal : goal.returns-in-Equal
returns-in-Equal c = let e = (goal.at.returns-in-Equal c).After-compare in
    let a = c.args in
    let d = c.loop-lo in
    let h = low a.store.now a.order.now d.lo d.hi c.loop-lo-test.true d.invariant.1 in
    here a.key.now (entries_at a.store.now a.order.now) d.lo d.hi (M d.lo d.hi) c.requires.1 h d.invariant.2 (sym (stands e) ∙ c.in-Equal.is)

pub overflow_add-lo : goal.overflow_add-lo
overflow_add-lo c = omega arith

pub loop-lo-smaller : goal.loop-lo-smaller
loop-lo-smaller c = omega arith

pub loop-lo-preserved : goal.loop-lo-preserved
loop-lo-preserved c = let e = (goal.at.loop-lo-preserved c).After-compare in
    let a = c.args in
    let d = c.loop-lo in
    let h = low a.store.now a.order.now d.lo d.hi c.loop-lo-test.true d.invariant.1 in
    (omega arith, omega arith, half-above a.key.now (entries_at a.store.now a.order.now) d.lo d.hi (M d.lo d.hi) c.requires.1 h d.invariant.2 (sym (stands e) ∙ c.in-Greater.is))

pub returns : goal.returns
returns c = gap-left _ _ _ c.loop-lo-test.false c.loop-lo.invariant.2
