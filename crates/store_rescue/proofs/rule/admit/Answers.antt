use Prim.Native.Nat.{ℕ, ◌+◌, ◌-◌, ◌*◌}
use native.Mathlib.Omega.{arith}
use mathlib.Core.Path.{◌≡◌, ◌∙◌, refl, sym, ap}
use mathlib.Core.List.{List}
use lib.ListN.{take, drop}
use Rattle.store_rescue.specs.declared.state.BlockState.TheVariants.{Blank, SumWrong, RuleBroken}
use Rattle.store_rescue.specs.State.{state_of}
use Rattle.store_rescue.proofs.StateLaws.{sound-good}
use Rattle.store_order_table.specs.Table.{block_at}
use Rattle.store_rescue.specs.Rescue.{report}
use Rattle.store_rescue.proofs.ListedLaws.{unsound}
use Rattle.store_rescue.proofs.rule.admit.Goals as goal
use Rattle.store_rescue.proofs.rule.admit.Goals.{After-judge}

abbrev L : After-judge → List ℕ
L d = d.args.store.now

-- what the block was found to be
state : (d : After-judge) → state_of (block_at (L d) d.args.i) ≡ d.judge.result
unfolding block_at
state d =
    let a = d.args.i * 512 in
    let n : 512 ≡ a + 512 - a = omega arith in
    ap (λ (m : ℕ). state_of (take m (drop a (L d)))) n ∙ sym d.judge.ensures

pub keep-requires : goal.keep-requires
keep-requires c = let d = (goal.at.keep-requires c).After-judge in
    (d.requires.0, (d.requires.1, sound-good _ (state d ∙ c.in-Sound.is)))

pub returns-in-Blank : goal.returns-in-Blank
unfolding report
returns-in-Blank c = let d = (goal.at.returns-in-Blank c).After-judge in unsound (L d) d.args.i d.args.kept d.args.order.now d.requires.0 Blank 0 (state d ∙ c.in-Blank.is) (λ x. refl) (λ e. omega arith)

pub returns-in-SumWrong : goal.returns-in-SumWrong
unfolding report
returns-in-SumWrong c = let d = (goal.at.returns-in-SumWrong c).After-judge in unsound (L d) d.args.i d.args.kept d.args.order.now d.requires.0 SumWrong 2 (state d ∙ c.in-SumWrong.is) (λ x. refl) (λ e. omega arith)

pub returns-in-RuleBroken : goal.returns-in-RuleBroken
unfolding report
returns-in-RuleBroken c = let d = (goal.at.returns-in-RuleBroken c).After-judge in unsound (L d) d.args.i d.args.kept d.args.order.now d.requires.0 RuleBroken 3 (state d ∙ c.in-RuleBroken.is) (λ x. refl) (λ e. omega arith)
