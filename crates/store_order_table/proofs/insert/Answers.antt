use Prim.Native.Nat.{ℕ, suc, ◌+◌, ◌-◌}
use mathlib.Core.Path.{◌≡◌, ◌∙◌, ap}
use mathlib.Core.List.{List}
use native.Mathlib.Omega.{arith}
use lib.ListN.{set, drop, take, length-drop}
use Rattle.store_block.specs.Over.{over}
use Rattle.store_block.specs.OverLaws.{over-paste, over-front}
use Rattle.store_order_table.proofs.insert.Goals as goal

pub returns : goal.returns
returns c =
    let a = c.args in
    let l = a.order.now in
    let d = length-drop a.p l in
    let ks : List ℕ = take (a.used - a.p) (drop a.p l) in
    let next : a.p + 1 ≡ suc a.p = omega arith in
    ap (λ (m : List ℕ). set m a.p a.x)
    (c.copy_within.ensures.after ∙ over-paste l (a.p + 1) (a.used - a.p) (drop a.p l) (omega arith) ∙ ap (λ (k : ℕ). over l k ks) next)
    ∙ over-front l a.p a.x ks (omega arith)
