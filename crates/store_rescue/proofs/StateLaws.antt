-- When a block is found to be what.
use Rattle.std.specs.Prelude.{◌≡◌, refl, Bool, true, false, cond, List, ℕ, get_or, replicate}
use Rattle.std.proofs.Common.{ap, arith}
use Rattle.store_block.specs.Block.{SumRight, BlockGood, block_test, sum_test}
use Rattle.store_block.specs.BlockLaws.{good-size}
use Rattle.store_block.specs.Decides.{Decides}
use Rattle.store_block.specs.DecidesLaws.{says-yes, says-no, agree, equal-decides, block-decides, sum-decides}
use Rattle.store_block.specs.DirectLaws.{good-sum, direct}
use Rattle.store_rescue.specs.declared.state.BlockState.{BlockState}
use Rattle.store_rescue.specs.declared.state.BlockState.TheVariants.{Blank, SumWrong, RuleBroken, Sound}
use Rattle.store_rescue.specs.State.{blank_test, state_of}

blank-decides : (b : List ℕ) → Decides (blank_test b) (b ≡ replicate 512 0)
unfolding blank_test
blank-decides b = equal-decides b (replicate 512 0)

abbrev choose : Bool → Bool → Bool → BlockState
choose x y z = cond x Blank (cond y (cond z Sound RuleBroken) SumWrong)

-- whatever decides the three questions gives the state
told : (b : List ℕ) {x y z : Bool} → Decides x (b ≡ replicate 512 0) → Decides y (SumRight b) → Decides z (BlockGood b)
    → state_of b ≡ choose x y z
unfolding state_of
told b p q r =
    let p' = agree (blank_test b) _ (blank-decides b) p in
    let q' = agree (sum_test b) _ (sum-decides b) q in
    let r' = agree (block_test b) _ (block-decides b) r in
    λ i. choose (p' i) (q' i) (r' i)

pub blank-state : state_of (replicate 512 0) ≡ Blank
blank-state = told (replicate 512 0) (says-yes refl) (sum-decides (replicate 512 0)) (block-decides (replicate 512 0))

-- whatever other rules it breaks
pub wrong-state : (b : List ℕ) → (b ≡ replicate 512 0 → ⊥) → (SumRight b → ⊥) → state_of b ≡ SumWrong
wrong-state b n s = told b (says-no n) (says-no s) (block-decides b)

pub broken-state : (b : List ℕ) → (b ≡ replicate 512 0 → ⊥) → SumRight b → (BlockGood b → ⊥) → state_of b ≡ RuleBroken
broken-state b n s g = told b (says-no n) (says-yes s) (says-no g)

pub good-sound : (b : List ℕ) → BlockGood b → state_of b ≡ Sound
good-sound b g = told b (says-no used) (says-yes (good-sum b g)) (says-yes g)
  where
    used : b ≡ replicate 512 0 → ⊥
    used e =
        let f = (direct b (good-size b g) _ _ _ _ refl refl refl refl g).first in
        let z : get_or b 0 0 ≡ 0 = ap (λ (x : List ℕ). get_or x 0 0) e in
        omega arith

pub state-blank : (b : List ℕ) → state_of b ≡ Blank → b ≡ replicate 512 0
unfolding state_of
state-blank b e = (blank-decides b).yes (go (blank_test b) (sum_test b) (block_test b) e)
  where
    go : (x y z : Bool) → choose x y z ≡ Blank → x ≡ true
    go true y z e = refl
    go false true true e = cc
    go false true false e = cc
    go false false z e = cc

pub sound-good : (b : List ℕ) → state_of b ≡ Sound → BlockGood b
unfolding state_of
sound-good b e = (block-decides b).yes (go (blank_test b) (sum_test b) (block_test b) e)
  where
    go : (x y z : Bool) → choose x y z ≡ Sound → z ≡ true
    go x y true e = refl
    go true y false e = cc
    go false true false e = cc
    go false false false e = cc
