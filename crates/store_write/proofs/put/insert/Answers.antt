use Prim.Native.Nat.{ℕ, ◌+◌, ◌-◌, ◌*◌, ◌≤◌, ◌<◌}
use native.Mathlib.Omega.{arith}
use mathlib.Core.Path.{◌≡◌, ◌∙◌, ap}
use mathlib.Core.List.{List}
use lib.ListN.{length}
use Rattle.store_block.specs.BlockLaws.{good-size}
use Rattle.store_block.specs.Over.{over}
use Rattle.store_block.specs.Block.{decode}
use Rattle.store_layout.specs.Store.{blocks_in, entries_of}
use Rattle.store_layout.proofs.StoreLaws.{good_length, room}
use Rattle.store_write.specs.ChangeLaws.{full, opened, inserted}
use Rattle.store_write.specs.MoveLaws.{moved}
use Rattle.store_write.proofs.put.insert.Goals as goal
use Rattle.store_write.proofs.put.insert.Goals.{After-count-end, Else-store-end}

used : (c : After-count-end) → c.count-end.result ≡ length (entries_of c.args.store.now)
used c = c.count-end.ensures c.requires.0

-- the used blocks lie inside the store
low : (c : After-count-end) → (c.count-end.result * 512 ≤ length c.args.store.now) × (c.args.i ≤ c.count-end.result)
low c = let u = used c in let w = good_length c.args.store.now c.requires.0 in let r = room c.args.store.now in let p = c.requires.1.1 in (omega arith, omega arith)

-- a block is blank
free : (c : Else-store-end) → (length (entries_of c.args.store.now) < blocks_in c.args.store.now) × (c.count-end.result * 512 + 512 ≤ length c.args.store.now)
free c = let u = c.count-end.ensures c.requires.0 in let w = good_length c.args.store.now c.requires.0 in let r = room c.args.store.now in let h = c.if-store-end.false in (omega arith, omega arith)

pub overflow_mul-end : goal.overflow_mul-end
overflow_mul-end c = let g = c.well_formed in let l = low (goal.at.overflow_mul-end c).After-count-end in omega arith

pub returns-then-store-end : goal.returns-then-store-end
returns-then-store-end c = let d = (goal.at.returns-then-store-end c).After-count-end in
    let l = c.args.store.now in
    let t = full l c.requires.0 (let u = used d in let w = good_length l c.requires.0 in let h = c.if-store-end.true in omega arith) c.args.i (decode c.args.b.now) in
    record { value = t.0; store_after = t.1 }

pub overflow_mul-a : goal.overflow_mul-a
overflow_mul-a c = let g = c.well_formed in let l = low (goal.at.overflow_mul-a c).After-count-end in omega arith

pub copy_within-requires-clause-dest_in_bounds : goal.copy_within-requires-clause-dest_in_bounds
copy_within-requires-clause-dest_in_bounds c =
    let w = (goal.at.copy_within-requires-clause-dest_in_bounds c) in
    let l = low w.After-count-end in
    let h = (free w.Else-store-end).1 in
    let a = c.args.i * 512 in
    let fits : a + 512 + (c.count-end.result * 512 - a) ≤ length c.args.store.now = omega arith in
    fits

pub copy-requires : goal.copy-requires
copy-requires c =
    let l = low (goal.at.copy-requires c).After-count-end in
    let h = (free (goal.at.copy-requires c).Else-store-end).1 in
    let q = good-size _ c.requires.1.0 in
    omega arith

pub returns : goal.returns
returns c = let f = (free (goal.at.returns c).Else-store-end).0 in
    let s = c.args in
    let l = s.store.now in
    let p = c.requires in
    let a = s.i * 512 in
    let end = c.count-end.result * 512 in
    let h = low (goal.at.returns c).After-count-end in
    record {
      value = opened l p.0 f;
      store_after = c.copy.ensures
          ∙ ap (λ (x : List ℕ). over x a s.b.now) (c.copy_within.ensures.after ∙ moved l (a + 512) a end (omega arith) (omega arith))
          ∙ inserted l p.0 f s.i s.b.now p.1.0 p.1.1 c.count-end.result (used (goal.at.returns c).After-count-end);
    }
