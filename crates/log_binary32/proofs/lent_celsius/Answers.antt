-- `log_binary32::lent_celsius` meets its contract. A pattern that is no NaN's is read and written back as itself; a NaN's is not finite, at either scale.
-- Assumes nothing.
use mathlib.Core.Path.{◌≡◌, sym, ap, ◌∙◌, subst}
use mathlib.Core.Bool.{Bool, true, false, not, cond}
use Prim.Native.Nat.{ℕ, ◌%◌, ◌≤◌, ◌<◌}
use native.Mathlib.Omega.{arith}
use lib.Dec.{T}
use lib.Ieee.{binary32, to_bits, of_bits, nan_bits}
use lib.Ieee.Bits.{to_bits-of_bits, nan_bits_is, nan_bits_above}
use borrow.Author.Tests.{le-ltb}
use Rattle.log_binary32.specs.Binary32.{finite, to_celsius}
use Rattle.log_binary32.specs.Celsius.{celsius_bits, celsius_of, sent_of}
use Rattle.log_binary32.proofs.CelsiusLaws.{not-finite-stays, omitted}
use Rattle.log_binary32.proofs.lent_celsius.Goals as goal

no_nan : (b : ℕ) → b % 2147483648 ≤ 2139095040 → T (not (nan_bits binary32 b))
no_nan b h = subst (λ (t : Bool). T (not t)) (sym (nan_bits_above binary32 b ∙ le-ltb 2139095040 (b % 2147483648) h)) tt

back : (b : ℕ) → b < 4294967296 → b % 2147483648 ≤ 2139095040 → to_bits binary32 (of_bits binary32 b) ≡ b
back b l h = to_bits-of_bits binary32 b l (subst (λ (t : Bool). T (not t)) (nan_bits_is binary32 b) (no_nan b h))

pub returns-then-bits-gt2139095040 : goal.returns-then-bits-gt2139095040
returns-then-bits-gt2139095040 c =
    let b = c.args.bits in
    let h : finite b ≡ false = le-ltb (b % 2147483648) 2139095040 (omega arith) in
    omitted b h ∙ ap sent_of (sym (not-finite-stays c.args.fahrenheit b h))

pub float_from_bits-x : goal.float_from_bits-x
float_from_bits-x c = no_nan c.args.bits c.if-bits-gt2139095040.false

at-fahrenheit : (f : Bool) (b x : ℕ) → f ≡ true → x ≡ b → to_celsius x ≡ celsius_of f b
unfolding celsius_of
at-fahrenheit f b x h e = ap to_celsius e ∙ sym (ap (λ (t : Bool). cond t (to_celsius b) b) h)

at-celsius : (f : Bool) (b x : ℕ) → f ≡ false → x ≡ b → x ≡ celsius_of f b
unfolding celsius_of
at-celsius f b x h e = e ∙ sym (ap (λ (t : Bool). cond t (to_celsius b) b) h)

pub returns-then-fahrenheit : goal.returns-then-fahrenheit
unfolding celsius_bits
returns-then-fahrenheit c =
    let a = c.args in
    let l : a.bits < 4294967296 = omega (arith, c.ranges.bits) in
    c.celsius.ensures ∙ ap sent_of (at-fahrenheit a.fahrenheit a.bits (to_bits binary32 (of_bits binary32 a.bits)) c.if-fahrenheit.true (back a.bits l c.if-bits-gt2139095040.false))

pub returns-else-fahrenheit : goal.returns-else-fahrenheit
unfolding celsius_bits
returns-else-fahrenheit c =
    let a = c.args in
    let l : a.bits < 4294967296 = omega (arith, c.ranges.bits) in
    c.celsius-else-fahrenheit.ensures ∙ ap sent_of (at-celsius a.fahrenheit a.bits (to_bits binary32 (of_bits binary32 a.bits)) c.if-fahrenheit.false (back a.bits l c.if-bits-gt2139095040.false))
