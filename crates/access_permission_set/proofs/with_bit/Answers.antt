use Prim.Native.Nat.{ℕ, ◌+◌}
use mathlib.Core.Path.{◌∙◌, ap}
use native.Mathlib.Omega.{arith}
use Rattle.base_definitions.proofs.BitsLaws.{with-below, shifted, kept, grown}
use Rattle.access_permission_set.proofs.with_bit.Goals as goal

pub returns-then-mask-bit-eq1 : goal.returns-then-mask-bit-eq1
returns-then-mask-bit-eq1 c = kept _ _ c.if-mask-bit-eq1.true

pub overflow_add-result : goal.overflow_add-result
overflow_add-result c =
    let s = c.before in
    let m = s.args.mask in
    let p = s.args.bit in
    let f = s.ranges.mask.fits in
    let h = with-below 16 p m s.requires (omega arith) in
    let e = shifted p s.requires in
    let g = grown m p c.if-mask-bit-eq1.false in
    record { fits = omega arith }

pub returns : goal.returns
returns c =
    let s = c.before in
    ap (λ (x : ℕ). s.args.mask + x) (shifted s.args.bit s.requires) ∙ grown s.args.mask s.args.bit c.if-mask-bit-eq1.false
