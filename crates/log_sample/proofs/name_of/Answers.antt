use mathlib.Core.Path.{◌≡◌, ◌∙◌, sym, ap, subst}
use mathlib.Core.List.{List}
use Prim.Native.Nat.{ℕ, ◌+◌, ◌-◌, ◌*◌, ◌≤◌}
use native.Mathlib.Omega.{arith}
use lib.ListN.{length, take, drop}
use Rattle.log_readings.specs.Lent.{place_at}
use Rattle.log_readings.specs.Places.{name_length}
use Rattle.log_readings.specs.LentLaws.{name-is, name-byte, name-bounds}
use Rattle.log_sample.proofs.name_of.Goals as goal

pub slice_bounds-result-end : goal.slice_bounds-result-end
slice_bounds-result-end c =
    let k = c.before.before.before in
    omega (arith, name-byte k.requires, k.requires.long, k.requires.place, c.wide.ensures.0)

pub returns : goal.returns
returns c =
    let k = c.before.before.before.before in
    let l = k.args.s.now in
    let i = k.args.place in
    let n = c.wide.ensures.0 in
    let e : 4 + i * 22 + c.wide.result - (4 + i * 22) ≡ name_length l i = omega arith in
    let same : take (4 + i * 22 + c.wide.result - (4 + i * 22)) (drop (4 + i * 22) l) ≡ (place_at l i).name = ap (λ (m : ℕ). take m (drop (4 + i * 22) l)) e ∙ sym (name-is l i) in
    let b = name-bounds (place_at l i).name k.requires.named in
    (same, subst (λ (x : List ℕ). 1 ≤ length x) (sym same) b.0, subst (λ (x : List ℕ). length x ≤ 16) (sym same) b.1)
