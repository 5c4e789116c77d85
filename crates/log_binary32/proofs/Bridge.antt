-- The logic's operations on an f32, by its bits: each is the whole-number rule of specs/Binary32.antt, for every f32. Assumes nothing.
use mathlib.Core.Path.{◌≡◌, refl, sym, ap, ◌∙◌, subst}
use Prim.Native.Nat.{ℕ, zero, suc, ◌+◌, ◌-◌, ◌*◌, ◌/◌, ◌%◌, ◌^◌, ◌≤◌, ◌<◌}
use native.Mathlib.Nat.{zero-lt-suc, mul-one, mul_comm, mul_assoc, mul_right_comm, mul_left_comm, mul-pos, mul-sub, add-mul, mul-lt-mul_of_pos_right, lt_of_mul-lt-mul_right, mul-le-mul_right, le_of_mul-le-mul_right}
use native.Mathlib.Omega.{arith}
use mathlib.Core.Bool.{Bool, true, false, not, cond, true≢false, false≢true}
use lib.Dec.{T, ltb, eqb, ltb→lt, nltb→le, eqb→eq, not_T, eqb-suc-zero}
use lib.Pow.{pow_pos}
use lib.IntN.{pos}
use lib.Ieee.{Float, nan, inf, fin, binary32, up, down, odd, round, sub, mul, div, fits, to_bits, of_bits, of_fields}
use lib.Ieee.Bits.{of_bits-to_bits, cond_no}
use lib.Ieee.Fits.{down_pos, sub-fits, mul-fits}
use lib.Ieee.Exact.{HasValue, odd_sign}
use lib.Ieee.Scale as Scale
use borrow.Author.Tests.{lt-ltb, le-ltb}
use Rattle.log_binary32.specs.Binary32.{negative, unsigned, finite, field_units, units_of, rounded, less_thirty_two, minus32, times5, over9}
use Rattle.log_binary32.proofs.Pattern.{round-bits}

-- ---- the number that a finite pattern stands for
differ : (x : ℕ) → suc x < 255 → suc x ≡ 255 → ⊥
differ x h e = omega arith

fields_value : (s : Bool) (x t : ℕ) → x < 255 → HasValue (of_fields binary32 s x t) s (field_units x t) (2 ^ 149)
unfolding of_fields field_units
fields_value s zero t h = subst (λ (a : ℕ). HasValue (odd 24 s t 0 149) s a (2 ^ 149)) (mul-one t) (odd_sign 24 s t 0 149)
fields_value s (suc x) t h =
    subst (λ (v : Float). HasValue v s ((8388608 + t) * 2 ^ x) (2 ^ 149))
    (sym (cond_no (eqb (suc x) 255) (cond (eqb t 0) (inf s) nan) (odd 24 s (8388608 + t) x 149) (not_T (eqb (suc x) 255) (λ (u : T (eqb (suc x) 255)). differ x h (eqb→eq (suc x) 255 u)))))
    (odd_sign 24 s (8388608 + t) x 149)

field_lt : (p : ℕ) → p < 2139095040 → p / 8388608 < 255
field_lt p h = omega arith

digits : (b : ℕ) → b % 2147483648 % 8388608 ≡ b % 8388608
digits b = omega arith

pub bits-value : (b : ℕ) → unsigned b < 2139095040 → HasValue (of_bits binary32 b) (negative b) (units_of (unsigned b)) (2 ^ 149)
unfolding of_bits
bits-value b h =
    subst (λ (t : ℕ). HasValue (of_bits binary32 b) (negative b) (field_units (unsigned b / 8388608) t) (2 ^ 149)) (sym (digits b))
    (fields_value (negative b) (unsigned b / 8388608) (b % 8388608) (field_lt (unsigned b) h))

-- of an f32 x, by its bits
pub own_value : (x : Float) → T (fits binary32 x) → unsigned (to_bits binary32 x) < 2139095040 → HasValue x (negative (to_bits binary32 x)) (units_of (unsigned (to_bits binary32 x))) (2 ^ 149)
own_value x f h = subst (λ (v : Float). HasValue v (negative (to_bits binary32 x)) (units_of (unsigned (to_bits binary32 x))) (2 ^ 149)) (of_bits-to_bits binary32 x f) (bits-value (to_bits binary32 x) h)

-- ---- a step of `specs/`: what it does with a finite pattern, and that it leaves any other
module _ (op : Float → Float) (step : Bool → ℕ → ℕ) where
  by-steps : (x : Float) → T (fits binary32 x)
      → ((s : Bool) (u : ℕ) → HasValue x s u (2 ^ 149) → to_bits binary32 (op x) ≡ step s u)
      → (2139095040 ≤ unsigned (to_bits binary32 x) → op x ≡ x)
      → to_bits binary32 (op x) ≡ cond (finite (to_bits binary32 x)) (step (negative (to_bits binary32 x)) (units_of (unsigned (to_bits binary32 x)))) (to_bits binary32 x)
  by-steps x f does keeps =
      let b = to_bits binary32 x in
      go (finite b) (ltb→lt (unsigned b) 2139095040) (nltb→le (unsigned b) 2139095040)
    where
      go : (t : Bool) → (T t → unsigned (to_bits binary32 x) < 2139095040) → (T (not t) → 2139095040 ≤ unsigned (to_bits binary32 x))
          → to_bits binary32 (op x) ≡ cond t (step (negative (to_bits binary32 x)) (units_of (unsigned (to_bits binary32 x)))) (to_bits binary32 x)
      go true a c = does (negative (to_bits binary32 x)) (units_of (unsigned (to_bits binary32 x))) (own_value x f (a tt))
      go false a c = ap (to_bits binary32) (keeps (c tt))

-- ---- the constants 32, 5 and 9 as MIR has them
thirty_two : of_bits binary32 1107296256 ≡ fin false 1 (pos 5)
unfolding of_bits
thirty_two = refl

five : of_bits binary32 1084227584 ≡ fin false 5 (pos 0)
unfolding of_bits
five = refl

nine : of_bits binary32 1091567616 ≡ fin false 9 (pos 0)
unfolding of_bits
nine = refl

-- ---- an f32 that is finite has a finite pattern
exactly : (p : ℕ) → p < 2147483648 → 2139095040 ≤ p → p / 8388608 ≡ 255
exactly p h k = omega arith

lower : (b : ℕ) → b % 2147483648 < 2147483648
lower b = omega arith

top-fields : (s : Bool) (t : ℕ) → Scale.finite (of_fields binary32 s 255 t) ≡ false
unfolding of_fields
top-fields s zero = refl
top-fields s (suc t) = ap (λ (b : Bool). Scale.finite (cond b (inf s) nan)) (eqb-suc-zero t)

pub not-fin : (x : Float) → T (fits binary32 x) → 2139095040 ≤ unsigned (to_bits binary32 x) → Scale.finite x ≡ false
unfolding of_bits
not-fin x f h =
    let b = to_bits binary32 x in
    ap Scale.finite (sym (of_bits-to_bits binary32 x f))
    ∙ ap (λ (y : ℕ). Scale.finite (of_fields binary32 (negative b) y (b % 8388608))) (exactly (unsigned b) (lower b) h)
    ∙ top-fields (negative b) (b % 8388608)

-- ---- less 32
module _ (M D u P : ℕ) (h : M * P ≡ u * D) where
  sum-val : (M * 1 + 32 * D) * P * 1 ≡ (u + 32 * P) * (D * 1)
  sum-val =
      let l : (M + 32 * D) * P ≡ M * P + 32 * D * P = add-mul M (32 * D) P in
      let r : (u + 32 * P) * D ≡ u * D + 32 * P * D = add-mul u (32 * P) D in
      let t : 32 * D * P ≡ 32 * P * D = mul_right_comm 32 D P in
      let g : (M + 32 * D) * P ≡ (u + 32 * P) * D = omega arith in
      simp mul-one g

  diff-val : (32 * D - M * 1) * P * 1 ≡ (32 * P - u) * (D * 1)
  diff-val =
      let g : (32 * D - M) * P ≡ (32 * P - u) * D =
      mul_comm (32 * D - M) P ∙ mul-sub P (32 * D) M ∙ ap (λ (z : ℕ). z - P * M) (mul_left_comm P 32 D ∙ sym (mul_left_comm D 32 P ∙ ap (λ (z : ℕ). 32 * z) (mul_comm D P)))
      ∙ ap (λ (z : ℕ). D * (32 * P) - z) (mul_comm P M ∙ h ∙ mul_comm u D) ∙ sym (mul-sub D (32 * P) u) ∙ mul_comm D (32 * P - u) in
      simp mul-one g

  diff-val' : (M * 1 - 32 * D) * P * 1 ≡ (u - 32 * P) * (D * 1)
  diff-val' =
      let g : (M - 32 * D) * P ≡ (u - 32 * P) * D =
      mul_comm (M - 32 * D) P ∙ mul-sub P M (32 * D) ∙ ap (λ (z : ℕ). P * M - z) (mul_left_comm P 32 D ∙ sym (mul_left_comm D 32 P ∙ ap (λ (z : ℕ). 32 * z) (mul_comm D P)))
      ∙ ap (λ (z : ℕ). z - D * (32 * P)) (mul_comm P M ∙ h ∙ mul_comm u D) ∙ sym (mul-sub D u (32 * P)) ∙ mul_comm D (u - 32 * P) in
      simp mul-one g

  less-val : 0 < D → u < 32 * P → M * 1 < 32 * D
  less-val p l = subst (λ (z : ℕ). z < 32 * D) (sym (mul-one M)) (lt_of_mul-lt-mul_right P (subst (λ (z : ℕ). M * P < z) (mul_right_comm 32 P D) (subst (λ (z : ℕ). z < 32 * P * D) (sym h) (mul-lt-mul_of_pos_right l p))))

  more-val : 0 < P → 32 * P ≤ u → 32 * D ≤ M * 1
  more-val p l = subst (λ (z : ℕ). 32 * D ≤ z) (sym (mul-one M)) (le_of_mul-le-mul_right (subst (λ (z : ℕ). z ≤ M * P) (mul_right_comm 32 P D) (subst (λ (z : ℕ). 32 * P * D ≤ z) (sym h) (mul-le-mul_right D l))) p)

sub-does : (x : Float) (s : Bool) (u : ℕ) → HasValue x s u (2 ^ 149) → to_bits binary32 (sub binary32 x (fin false 1 (pos 5))) ≡ less_thirty_two s u
unfolding sub less_thirty_two
sub-does nan s u v = absurd v
sub-does (inf t) s u v = absurd v
sub-does (fin true m e) true u v =
    round-bits true (m * up e * 1 + 32 * down e) (down e * 1) (u + 2 ^ 154) 1 (mul-pos (down_pos e) (zero-lt-suc 0)) (zero-lt-suc 0) (sum-val (m * up e) (down e) u (2 ^ 149) v.1)
sub-does (fin true m e) false u v = absurd (true≢false v.0)
sub-does (fin false m e) true u v = absurd (false≢true v.0)
sub-does (fin false m e) false u v = go (ltb u (2 ^ 154)) (ltb→lt u (2 ^ 154)) (nltb→le u (2 ^ 154))
  where
    a : ℕ
    a = m * up e * 1

    go : (t : Bool) → (T t → u < 2 ^ 154) → (T (not t) → 2 ^ 154 ≤ u)
        → to_bits binary32 (cond (ltb (m * up e * 1) (32 * down e)) (round binary32 true (32 * down e - m * up e * 1) (down e * 1)) (round binary32 false (m * up e * 1 - 32 * down e) (down e * 1)))
        ≡ cond t (rounded true (2 ^ 154 - u) 1) (rounded false (u - 2 ^ 154) 1)
    go true l g =
        ap (λ (t : Bool). to_bits binary32 (cond t (round binary32 true (32 * down e - m * up e * 1) (down e * 1)) (round binary32 false (m * up e * 1 - 32 * down e) (down e * 1))))
        (lt-ltb (m * up e * 1) (32 * down e) (less-val (m * up e) (down e) u (2 ^ 149) v.1 (down_pos e) (l tt)))
        ∙ round-bits true (32 * down e - m * up e * 1) (down e * 1) (2 ^ 154 - u) 1 (mul-pos (down_pos e) (zero-lt-suc 0)) (zero-lt-suc 0) (diff-val (m * up e) (down e) u (2 ^ 149) v.1)
    go false l g =
        ap (λ (t : Bool). to_bits binary32 (cond t (round binary32 true (32 * down e - m * up e * 1) (down e * 1)) (round binary32 false (m * up e * 1 - 32 * down e) (down e * 1))))
        (le-ltb (m * up e * 1) (32 * down e) (more-val (m * up e) (down e) u (2 ^ 149) v.1 (pow_pos 149) (g tt)))
        ∙ round-bits false (m * up e * 1 - 32 * down e) (down e * 1) (u - 2 ^ 154) 1 (mul-pos (down_pos e) (zero-lt-suc 0)) (zero-lt-suc 0) (diff-val' (m * up e) (down e) u (2 ^ 149) v.1)

sub-keeps : (x : Float) → Scale.finite x ≡ false → sub binary32 x (fin false 1 (pos 5)) ≡ x
unfolding sub
sub-keeps nan h = refl
sub-keeps (inf s) h = refl
sub-keeps (fin s m e) h = absurd (true≢false h)

pub sub-bits : (x : Float) → T (fits binary32 x) → to_bits binary32 (sub binary32 x (of_bits binary32 1107296256)) ≡ minus32 (to_bits binary32 x)
unfolding minus32
sub-bits x f =
    ap (λ (y : Float). to_bits binary32 (sub binary32 x y)) thirty_two
    ∙ by-steps (λ (y : Float). sub binary32 y (fin false 1 (pos 5))) less_thirty_two x f (sub-does x) (λ (h : 2139095040 ≤ unsigned (to_bits binary32 x)). sub-keeps x (not-fin x f h))

-- ---- times 5
times-val : (M D u P : ℕ) → M * P ≡ u * D → M * 5 * P * 1 ≡ u * 5 * (D * 1)
times-val M D u P h =
    let g : M * 5 * P ≡ u * 5 * D = mul_right_comm M 5 P ∙ ap (λ (z : ℕ). z * 5) h ∙ mul_right_comm u D 5 in
    simp mul-one g

mul-does : (x : Float) (s : Bool) (u : ℕ) → HasValue x s u (2 ^ 149) → to_bits binary32 (mul binary32 x (fin false 5 (pos 0))) ≡ rounded s (u * 5) 1
unfolding mul
mul-does nan s u v = absurd v
mul-does (inf t) s u v = absurd v
mul-does (fin true m e) s u v =
    round-bits true (m * up e * 5) (down e * 1) (u * 5) 1 (mul-pos (down_pos e) (zero-lt-suc 0)) (zero-lt-suc 0) (times-val (m * up e) (down e) u (2 ^ 149) v.1)
    ∙ ap (λ (t : Bool). rounded t (u * 5) 1) v.0
mul-does (fin false m e) s u v =
    round-bits false (m * up e * 5) (down e * 1) (u * 5) 1 (mul-pos (down_pos e) (zero-lt-suc 0)) (zero-lt-suc 0) (times-val (m * up e) (down e) u (2 ^ 149) v.1)
    ∙ ap (λ (t : Bool). rounded t (u * 5) 1) v.0

mul-keeps : (x : Float) → Scale.finite x ≡ false → mul binary32 x (fin false 5 (pos 0)) ≡ x
unfolding mul
mul-keeps nan h = refl
mul-keeps (inf true) h = refl
mul-keeps (inf false) h = refl
mul-keeps (fin s m e) h = absurd (true≢false h)

pub mul-bits : (x : Float) → T (fits binary32 x) → to_bits binary32 (mul binary32 x (of_bits binary32 1084227584)) ≡ times5 (to_bits binary32 x)
unfolding times5
mul-bits x f =
    ap (λ (y : Float). to_bits binary32 (mul binary32 x y)) five
    ∙ by-steps (λ (y : Float). mul binary32 y (fin false 5 (pos 0))) (λ (s : Bool) (u : ℕ). rounded s (u * 5) 1) x f (mul-does x) (λ (h : 2139095040 ≤ unsigned (to_bits binary32 x)). mul-keeps x (not-fin x f h))

-- ---- over 9
over-val : (M D u P : ℕ) → M * P ≡ u * D → M * 1 * P * 9 ≡ u * (9 * D)
over-val M D u P h =
    let g : M * P * 9 ≡ u * (9 * D) = ap (λ (z : ℕ). z * 9) h ∙ mul_assoc u D 9 ∙ ap (λ (z : ℕ). u * z) (mul_comm D 9) in
    simp mul-one g

div-does : (x : Float) (s : Bool) (u : ℕ) → HasValue x s u (2 ^ 149) → to_bits binary32 (div binary32 x (fin false 9 (pos 0))) ≡ rounded s u 9
unfolding div
div-does nan s u v = absurd v
div-does (inf t) s u v = absurd v
div-does (fin true m e) s u v =
    round-bits true (m * up e * 1) (9 * down e) u 9 (mul-pos (zero-lt-suc 8) (down_pos e)) (zero-lt-suc 8) (over-val (m * up e) (down e) u (2 ^ 149) v.1)
    ∙ ap (λ (t : Bool). rounded t u 9) v.0
div-does (fin false m e) s u v =
    round-bits false (m * up e * 1) (9 * down e) u 9 (mul-pos (zero-lt-suc 8) (down_pos e)) (zero-lt-suc 8) (over-val (m * up e) (down e) u (2 ^ 149) v.1)
    ∙ ap (λ (t : Bool). rounded t u 9) v.0

div-keeps : (x : Float) → Scale.finite x ≡ false → div binary32 x (fin false 9 (pos 0)) ≡ x
unfolding div
div-keeps nan h = refl
div-keeps (inf true) h = refl
div-keeps (inf false) h = refl
div-keeps (fin s m e) h = absurd (true≢false h)

pub div-bits : (x : Float) → T (fits binary32 x) → to_bits binary32 (div binary32 x (of_bits binary32 1091567616)) ≡ over9 (to_bits binary32 x)
unfolding over9
div-bits x f =
    ap (λ (y : Float). to_bits binary32 (div binary32 x y)) nine
    ∙ by-steps (λ (y : Float). div binary32 y (fin false 9 (pos 0))) (λ (s : Bool) (u : ℕ). rounded s u 9) x f (div-does x) (λ (h : 2139095040 ≤ unsigned (to_bits binary32 x)). div-keeps x (not-fin x f h))

-- ---- all three
pub celsius-bits : (x : Float) → T (fits binary32 x)
    → to_bits binary32 (div binary32 (mul binary32 (sub binary32 x (of_bits binary32 1107296256)) (of_bits binary32 1084227584)) (of_bits binary32 1091567616)) ≡ over9 (times5 (minus32 (to_bits binary32 x)))
celsius-bits x f =
    let y = sub binary32 x (of_bits binary32 1107296256) in
    let z = mul binary32 y (of_bits binary32 1084227584) in
    div-bits z (mul-fits binary32 y (of_bits binary32 1084227584))
    ∙ ap over9 (mul-bits y (sub-fits binary32 x (of_bits binary32 1107296256)) ∙ ap times5 (sub-bits x f))
