use Prim.Native.Nat.{ℕ}
use mathlib.Core.Path.{◌≡◌, sym, ap, ◌∙◌}
use lib.ListN.{replicate}
use Rattle.store_block.specs.Block.{SumRight}
use Rattle.store_rescue.specs.State.{state_of}
use Rattle.store_rescue.proofs.StateLaws.{blank-state, wrong-state, broken-state, good-sound}
use Rattle.store_rescue.proofs.state.judge.Goals as goal
use Rattle.store_rescue.proofs.state.judge.Goals.{Else-not-sum_right, Else-zeros}

pub returns-then-zeros : goal.returns-then-zeros
returns-then-zeros c = sym (ap state_of (c.zeros.ensures.yes c.if-zeros.true ∙ ap (λ (n : ℕ). replicate n 0) c.requires) ∙ blank-state)

used : (c : Else-zeros) → c.args.b.now ≡ replicate 512 0 → ⊥
used c e = c.zeros.ensures.no c.if-zeros.false (e ∙ ap (λ (n : ℕ). replicate n 0) (sym c.requires))

pub returns-then-not-sum_right : goal.returns-then-not-sum_right
returns-then-not-sum_right c = sym (wrong-state _ (used (goal.at.returns-then-not-sum_right c).Else-zeros) (c.sum_right.ensures.no c.if-not-sum_right.true))

right : (c : Else-not-sum_right) → SumRight c.args.b.now
right c = c.sum_right.ensures.yes c.if-not-sum_right.false

pub returns-then-not-rules_kept : goal.returns-then-not-rules_kept
returns-then-not-rules_kept c = sym (broken-state _ (used (goal.at.returns-then-not-rules_kept c).Else-zeros) (right (goal.at.returns-then-not-rules_kept c).Else-not-sum_right) (c.rules_kept.ensures.no c.if-not-rules_kept.true))

pub returns : goal.returns
returns c = sym (good-sound _ (c.rules_kept.ensures.yes c.if-not-rules_kept.false (right (goal.at.returns c).Else-not-sum_right)))
