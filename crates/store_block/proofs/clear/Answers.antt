use Prim.Native.Nat.{ℕ, ◌+◌, ◌-◌}
use mathlib.Core.Path.{◌≡◌, ◌∙◌, ap}
use native.Mathlib.Omega.{arith}
use lib.ListN.{length, replicate, take, drop, length-drop}
use Rattle.std.proofs.lemmas.List.{length-replicate, length-take-le}
use Rattle.store_block.specs.OverLaws.{over-part}
use Rattle.store_block.proofs.clear.Goals as goal

pub returns : goal.returns
returns c =
    let a = c.args in
    let l = a.out.now in
    let d = length-drop a.a l in
    let z = length-replicate {A = ℕ} a.n 0 in
    let m : length (take (a.a + a.n - a.a) (drop a.a l)) ≡ a.n = length-take-le (a.a + a.n - a.a) (drop a.a l) (omega arith) ∙ omega arith in
    over-part l a.a _ (replicate a.n 0) _ (c.fill.ensures.after (λ y h. h) ∙ ap (λ (k : ℕ). replicate k 0) m) (omega arith)
