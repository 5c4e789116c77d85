use Prim.Native.Nat.{ℕ, ◌+◌, ◌-◌, ◌*◌}
use native.Mathlib.Omega.{arith}
use native.Mathlib.Nat.{le_antisymm}
use mathlib.Core.Path.{◌≡◌, ◌∙◌, ap, sym}
use lib.ListN.{length, drop}
use Rattle.store_layout.specs.Store.{blocks_in, entries_from, entries_of}
use Rattle.store_layout.proofs.WalkLaws.{count-blank, count-used, count-end}
use Rattle.store_layout.proofs.count.Goals as goal

pub loop-i-init : goal.loop-i-init
unfolding entries_of
loop-i-init c = let l = c.args.store.now in
    let z : 0 + length (entries_from (blocks_in l - 0) l) ≡ length (entries_from (blocks_in l - 0) l) = omega arith in
    let y : blocks_in l - 0 ≡ blocks_in l = omega arith in
    (omega arith, z ∙ ap (λ (k : ℕ). length (entries_from k l)) y)

pub returns-then-store-i-eq0 : goal.returns-then-store-i-eq0
returns-then-store-i-eq0 c = λ g. sym (count-blank c.args.store.now _ _ (c.loop-i.i * 512) c.if-store-i-eq0.true) ∙ c.loop-i.invariant.1

pub loop-i-preserved : goal.loop-i-preserved
loop-i-preserved c =
    let l = c.args.store.now in
    let n = blocks_in l in
    let i = c.loop-i.i in
    let next : (i + 1) * 512 ≡ i * 512 + 512 = omega arith in (
      omega arith,
      ap (λ (a : ℕ). i + 1 + length (entries_from (n - (i + 1)) (drop a l))) next
          ∙ count-used l n i (i * 512) c.loop-i-test.true c.if-store-i-eq0.false ∙ c.loop-i.invariant.1,
    )

pub returns : goal.returns
returns c =
    let l = c.args.store.now in
    λ g. sym (le_antisymm c.loop-i.auto.i-end c.loop-i-test.false) ∙ sym (count-end l _ _ (c.loop-i.i * 512) c.loop-i-test.false) ∙ c.loop-i.invariant.1
