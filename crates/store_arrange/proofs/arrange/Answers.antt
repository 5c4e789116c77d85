use Prim.Native.Nat.{ℕ, ◌≤◌}
use native.Mathlib.Omega.{arith}
use mathlib.Core.Path.{◌∙◌, subst}
use lib.ListN.{length}
use Rattle.store_arrange.specs.Brought.{Brought}
use Rattle.store_arrange.specs.ArrangingLaws.{arranging-start, arranging-more, arranging-all}
use Rattle.store_arrange.proofs.arrange.Goals as goal
use Rattle.store_arrange.proofs.arrange.Goals.{Start}

-- the table has 128 places
roomy : (s : Start) → s.args.used ≤ length s.args.table
roomy s = let g = s.well_formed in omega arith

pub loop-j-init : goal.loop-j-init
loop-j-init c = let s = (goal.at.loop-j-init c).Start in arranging-start s.args.store.now s.args.table s.args.used (roomy s) s.requires.2 s.requires.3

pub bounds-order-j : goal.bounds-order-j
bounds-order-j c = omega arith

pub bring-requires : goal.bring-requires
bring-requires c = let w = c.wide-s.ensures in
    let j = c.loop-j.j in
    let h = c.loop-j-test.true in
    let a = c.loop-j.invariant in
    let f = a.from j (omega arith) h in
    let i = a.inside j (omega arith) h in
    let n = a.long in
    (omega arith, omega arith, omega arith)

pub loop-j-preserved : goal.loop-j-preserved
loop-j-preserved c = let s = (goal.at.loop-j-preserved c).Start in
    let d = c.loop-j in
    let h = c.loop-j-test.true in
    arranging-more s.args.store.now s.args.table s.args.used (roomy s) d.j d.store _ d.order _ h d.invariant (subst (λ (x : ℕ). Brought d.j x d.store c.bring.new.store d.order c.bring.new.order) c.wide-s.ensures.0 c.bring.ensures)

pub overflow_mul-a : goal.overflow_mul-a
overflow_mul-a c = let g = c.well_formed in omega arith

pub overflow_sub-n : goal.overflow_sub-n
overflow_sub-n c = let n = c.loop-j.invariant.long in omega arith

pub clear-requires : goal.clear-requires
clear-requires c = let n = c.loop-j.invariant.long in omega arith

pub returns : goal.returns
returns c = let s = (goal.at.returns c).Start in
    let d = c.loop-j in
    c.clear.ensures ∙ arranging-all s.args.store.now s.args.table s.args.used d.j d.store d.order (roomy s) s.requires.1 (omega arith) d.invariant
