use Prim.Native.Nat.{ℕ, ◌+◌, ◌-◌, ◌*◌, ◌≤◌, ◌<◌}
use native.Mathlib.Omega.{arith}
use mathlib.Core.Path.{◌≡◌, ◌∙◌, ap}
use mathlib.Core.List.{List}
use lib.ListN.{length, take, drop, replicate}
use Rattle.store_block.specs.Over.{over}
use Rattle.store_layout.specs.Store.{entries_of}
use Rattle.store_layout.proofs.StoreLaws.{good_length, room}
use Rattle.store_write.specs.ChangeLaws.{removed}
use Rattle.store_write.specs.MoveLaws.{moved}
use Rattle.store_write.proofs.delete.remove.Goals as goal
use Rattle.store_write.proofs.delete.remove.Goals.{After-count-end}

used : (c : After-count-end) → c.count-end.result ≡ length (entries_of c.args.store.now)
used c = c.count-end.ensures c.requires.0

-- the used blocks lie inside the store, and the one to go is among them
low : (c : After-count-end) → (c.count-end.result * 512 ≤ length c.args.store.now) × (c.args.i < c.count-end.result)
low c = let u = used c in let w = good_length c.args.store.now c.requires.0 in let r = room c.args.store.now in let p = c.requires.1 in (omega arith, omega arith)

pub overflow_mul-end : goal.overflow_mul-end
overflow_mul-end c = let g = c.well_formed in let l = low (goal.at.overflow_mul-end c).After-count-end in omega arith

pub overflow_sub-last : goal.overflow_sub-last
overflow_sub-last c = let l = low (goal.at.overflow_sub-last c).After-count-end in omega arith

pub overflow_mul-a : goal.overflow_mul-a
overflow_mul-a c = let g = c.well_formed in let l = low (goal.at.overflow_mul-a c).After-count-end in omega arith

pub overflow_add-a : goal.overflow_add-a
overflow_add-a c = let g = c.well_formed in let l = low (goal.at.overflow_add-a c).After-count-end in omega arith

pub copy_within-requires-clause-in_bounds : goal.copy_within-requires-clause-in_bounds
copy_within-requires-clause-in_bounds c = (low (goal.at.copy_within-requires-clause-in_bounds c).After-count-end).0

pub copy_within-requires-clause-dest_in_bounds : goal.copy_within-requires-clause-dest_in_bounds
copy_within-requires-clause-dest_in_bounds c =
    let l = low (goal.at.copy_within-requires-clause-dest_in_bounds c).After-count-end in
    let a = c.args.i * 512 in
    let fits : a + (c.count-end.result * 512 - (a + 512)) ≤ length c.args.store.now = omega arith in
    fits

pub clear-requires : goal.clear-requires
clear-requires c = let l = low (goal.at.clear-requires c).After-count-end in omega arith

pub returns : goal.returns
returns c =
    let l = c.args.store.now in
    let a = c.args.i * 512 in
    let end = c.count-end.result * 512 in
    let h = low (goal.at.returns c).After-count-end in
    let n : end - (a + 512) ≡ end - 512 - a = omega arith in
    c.clear.ensures
    ∙ ap (λ (x : List ℕ). over x (end - 512) (replicate 512 0))
    (c.copy_within.ensures.after ∙ moved l a (a + 512) end (omega arith) (omega arith) ∙ ap (λ (k : ℕ). over l a (take k (drop (a + 512) l))) n)
    ∙ removed l c.requires.0 c.args.i c.requires.1 c.count-end.result (used (goal.at.returns c).After-count-end)
