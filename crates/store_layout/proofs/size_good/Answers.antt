use Prim.Native.Nat.{◌%◌, ◌≤◌}
use native.Mathlib.Omega.{arith}
use mathlib.Core.Path.{◌≡◌, ◌∙◌}
use lib.ListN.{length}
use Rattle.std.proofs.Common.{rules}
use Rattle.store_block.specs.DecidesLaws.{says-no, decides-by, eqb-decides}
use Rattle.store_layout.proofs.SizeLaws.{is-size}
use Rattle.store_layout.proofs.size_good.Goals as goal
use Rattle.store_layout.proofs.size_good.Goals.{Else-contains}

pub returns-then-contains : goal.returns-then-contains
returns-then-contains c = let l = c.args.store.now in
    let low : 512 ≤ length l = search rules in
    let high : length l ≤ 65536 = search rules in
    is-size _ l (decides-by (λ (e : length l % 512 ≡ 0). record { some = omega arith; most = omega arith; whole = omega arith }) (λ g. let w = g.whole in omega arith) (eqb-decides (length l % 512) 0))

outside : (c : Else-contains) → 512 ≤ length c.args.store.now → length c.args.store.now ≤ 65536 → ⊥
outside c low high = search rules

pub returns-else-contains : goal.returns-else-contains
returns-else-contains c = let l = c.args.store.now in
    c.if-contains.false ∙ is-size _ l (says-no (λ g. let s = g.some in let m = g.most in let w = g.whole in outside (goal.at.returns-else-contains c).Else-contains (omega arith) (omega arith)))
