use Prim.Native.Nat.{ℕ, ◌+◌, ◌-◌}
use native.Mathlib.Omega.{arith}
use mathlib.Core.Path.{◌≡◌, ◌∙◌, ap}
use lib.ListN.{length, take, drop}
use Rattle.store_block.specs.OverLaws.{over-all}
use Rattle.store_arrange.specs.BroughtLaws.{part}
use Rattle.store_arrange.proofs.block_from.Goals as goal

pub returns : goal.returns
returns c = let s = c.before.before.before.before.before in
    let l = s.args.store.now in
    let a = s.args.a in
    let n : a + 512 - a ≡ 512 = omega arith in
    c.copy.ensures ∙ over-all _ _ (ap (λ (m : ℕ). length (take m (drop a l))) n ∙ part l a s.requires) ∙ ap (λ (m : ℕ). take m (drop a l)) n
