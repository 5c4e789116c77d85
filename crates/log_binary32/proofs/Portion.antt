-- The quotient of two small counts, each cast to an f32, is the quotient rounded once. Assumes nothing.
use mathlib.Core.Path.{◌≡◌, refl, sym, ap, ◌∙◌, subst}
use Prim.Native.Nat.{ℕ, zero, suc, ◌-◌, ◌*◌, ◌/◌, ◌^◌, ◌≤◌, ◌<◌}
use native.Mathlib.Nat.{le_trans, lt_irrefl, mul-one, zero-mul, mul_comm, mul_assoc, mul_left_comm, mul-pos}
use native.Mathlib.Omega.{arith}
use mathlib.Core.Bool.{Bool, true, false, not, cond, true≢false}
use lib.Dec.{T, ltb, eqb, eqb→eq, not_T, le→leb}
use lib.IntN.{ℤ, pos}
use lib.Ieee.{Float, nan, inf, fin, binary32, up, down, size, odd, units, round, div, to_bits, of_int, in_float, is_nan}
use lib.Ieee.Bits.{cond_no}
use lib.Ieee.Fits.{down_pos, round_is}
use lib.Ieee.Exact.{HasValue}
use lib.Ieee.Nearest.{closest}
use lib.Ieee.Back.{round_whole}
use lib.Ieee.Scale.{round_same}
use Rattle.log_binary32.specs.Binary32.{portion}
use Rattle.log_binary32.proofs.Pattern.{round-bits}

-- ---- a / c of two values that are whole numbers
cross : (M N De Dd a c : ℕ) → M * 1 ≡ a * De → N * 1 ≡ c * Dd → M * Dd * c ≡ a * (N * De)
cross M N De Dd a c p q =
    let p' : M ≡ a * De = sym (mul-one M) ∙ p in
    let q' : N ≡ c * Dd = sym (mul-one N) ∙ q in
    rw (p', q') (simp (mul_assoc, mul_comm, mul_left_comm))

not-zero : (n : ℕ) (e : ℤ) (c : ℕ) → 0 < c → n * up e * 1 ≡ c * down e → T (not (eqb n 0))
not-zero n e c C h =
    not_T (eqb n 0) (λ (t : T (eqb n 0)). lt_irrefl 0 (subst (λ (x : ℕ). 0 < x) (sym h ∙ ap (λ (y : ℕ). y * up e * 1) (eqb→eq n 0 t) ∙ ap (λ (y : ℕ). y * 1) (zero-mul (up e)) ∙ zero-mul 1) (mul-pos C (down_pos e))))

quotient : (x y : Float) (a c : ℕ) → 0 < c → HasValue x false a 1 → HasValue y false c 1 → div binary32 x y ≡ round binary32 false a c
unfolding div
quotient nan y a c C v w = absurd v
quotient (inf s) y a c C v w = absurd v
quotient (fin true m e) y a c C v w = absurd (true≢false v.0)
quotient (fin false m e) nan a c C v w = absurd w
quotient (fin false m e) (inf t) a c C v w = absurd w
quotient (fin false m e) (fin true n d) a c C v w = absurd (true≢false w.0)
quotient (fin false m e) (fin false n d) a c C v w =
    cond_no (eqb n 0) (cond (eqb m 0) nan (inf false)) (round binary32 false (m * up e * down d) (n * up d * down e)) (not-zero n d c C w.1)
    ∙ round_same binary32 false (m * up e * down d) (n * up d * down e) a c
    (mul-pos (subst (λ (x : ℕ). 0 < x) (sym (sym (mul-one (n * up d)) ∙ w.1)) (mul-pos C (down_pos d))) (down_pos e)) C
    (cross (m * up e) (n * up d) (down e) (down d) a c v.1 w.1)

odd_no_nan : (d : ℕ) (s : Bool) (q k l : ℕ) → T (not (is_nan (odd d s q k l)))
unfolding odd is_nan
odd_no_nan d s zero k l = tt
odd_no_nan d s (suc q) k l = tt

units-no-nan : (s : Bool) (q k : ℕ) → T (not (is_nan (units binary32 s q k)))
unfolding units
units-no-nan s q k = go (ltb (q * 2 ^ k) (2 ^ 277))
  where
    go : (b : Bool) → T (not (is_nan (cond b (odd 25 s q k 149) (inf s))))
    go true = odd_no_nan 25 s q k 149
    go false = unfold is_nan in tt

pub fits-cast : (n : ℕ) → n ≤ 128 → T (in_float binary32 (pos n))
unfolding in_float
fits-cast n h = le→leb n 16777216 (le_trans h (omega arith))

module _ (used all : ℕ) (U : used ≤ 16777216) (A : all ≤ 16777216) (Z : 0 < all) where
  abbrev ratio : Float
  ratio = div binary32 (of_int binary32 (pos used)) (of_int binary32 (pos all))

  ratio-is : ratio ≡ round binary32 false used all
  unfolding of_int
  ratio-is = quotient (round binary32 false used 1) (round binary32 false all 1) used all Z (round_whole binary32 false used U) (round_whole binary32 false all A)

  pub portion-bits : to_bits binary32 ratio ≡ portion used all
  unfolding portion
  portion-bits = ap (to_bits binary32) ratio-is ∙ round-bits false used all (used * 2 ^ 149) all Z Z refl

  pub portion-no-nan : T (not (is_nan ratio))
  portion-no-nan = subst (λ (x : Float). T (not (is_nan x))) (sym (ratio-is ∙ round_is binary32 false used all)) (units-no-nan false (closest (used * 2 ^ 149) (all * 2 ^ (size (used * 2 ^ 149 / all) - 24))) (size (used * 2 ^ 149 / all) - 24))
