use Prim.Native.Nat.{ℕ}
use mathlib.Core.Path.{◌∙◌, ap, ap₂}
use mathlib.Core.List.{List}
use Rattle.store_block.specs.Over.{over}
use Rattle.store_arrange.specs.Brought.{exchanged}
use Rattle.store_arrange.proofs.exchange.Goals as goal

pub returns : goal.returns
unfolding exchanged
returns c =
    let s = c.args in
    c.copy-2.ensures
    ∙ ap₂ (λ (m z : List ℕ). over m s.b z) (c.copy.ensures ∙ ap (over s.store.now s.a) c.block_from-y.ensures) c.block_from-x.ensures
