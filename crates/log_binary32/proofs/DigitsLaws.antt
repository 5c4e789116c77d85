-- The computed digits and the closest whole number are those of the logic's floats. Assumes nothing.
use Rattle.std.specs.Prelude.{◌≡◌, refl}
use Rattle.std.proofs.Common.{sym, ap, ◌∙◌, inl, inr, le_antisymm, lt_of_lt_of_le, lt_of_not-le, not-le_of_lt, eq-zero-or-pos, arith, pow_mono}
use Prim.Native.Nat.{ℕ, zero, suc, ◌+◌, ◌-◌, ◌*◌, ◌/◌, ◌%◌, ◌^◌, ◌≤◌, ◌<◌, compare, Ordering}
use Rattle.std.proofs.Math.Nat.{pow-succ'}
use Rattle.std.specs.Float.Ieee.{size, nearest}
use Rattle.std.specs.Float.Ieee.Digits.{size-lt, size-le}
use Rattle.std.specs.Float.Ieee.Nearest as Logic
use Rattle.log_binary32.specs.Binary32.{digits_in, digits, up_or_down, closest, pattern_at, pattern}

pub size_exact : (a n : ℕ) → 2 ^ a ≤ n → n < 2 ^ suc a → size n ≡ suc a
size_exact a n lo hi = le_antisymm (size-le n (suc a) hi) (lt_of_not-le (λ (g : size n ≤ a). not-le_of_lt (lt_of_lt_of_le (size-lt n) (pow_mono g)) lo))

digits-upper : (f n : ℕ) → n ≤ f → n < 2 ^ digits_in f n
unfolding digits_in
digits-upper zero n h = omega arith
digits-upper (suc f) zero h = omega arith
digits-upper (suc f) (suc n) h =
    let i = digits-upper f (suc n / 2) (half f n h) in
    let p = pow-succ' 2 (digits_in f (suc n / 2)) in
    double n (suc n / 2) (2 ^ digits_in f (suc n / 2)) (2 ^ suc (digits_in f (suc n / 2))) refl i p
  where
    half : (g m : ℕ) → suc m ≤ suc g → suc m / 2 ≤ g
    half g m k = omega arith

    double : (m h' x y : ℕ) → suc m / 2 ≡ h' → h' < x → y ≡ 2 * x → suc m < y
    double m h' x y a b c = omega arith

digits-none : (f : ℕ) → digits_in f 0 ≡ 0
unfolding digits_in
digits-none zero = refl
digits-none (suc f) = refl

digits-lower : (f n : ℕ) → 0 < n → n ≤ f → 2 ^ digits_in f n ≤ 2 * n
unfolding digits_in
digits-lower zero n p h = absurd (omega arith)
digits-lower (suc f) zero p h = absurd (omega arith)
digits-lower (suc f) (suc n) p h =
    let q = pow-succ' 2 (digits_in f (suc n / 2)) in
    elim (eq-zero-or-pos (suc n / 2)) [
      | inl z ↦
          let e : 2 ^ digits_in f (suc n / 2) ≡ 1 = ap (λ (m : ℕ). 2 ^ digits_in f m) z ∙ ap (λ (m : ℕ). 2 ^ m) (digits-none f) in
          one n (2 ^ digits_in f (suc n / 2)) (2 ^ suc (digits_in f (suc n / 2))) e q
      | inr g ↦ double n (2 ^ digits_in f (suc n / 2)) (2 ^ suc (digits_in f (suc n / 2))) (digits-lower f (suc n / 2) g (half f n h)) q
    ]
  where
    half : (g m : ℕ) → suc m ≤ suc g → suc m / 2 ≤ g
    half g m k = omega arith

    one : (m x y : ℕ) → x ≡ 1 → y ≡ 2 * x → y ≤ 2 * suc m
    one m x y a b = omega arith

    double : (m x y : ℕ) → x ≤ 2 * (suc m / 2) → y ≡ 2 * x → y ≤ 2 * suc m
    double m x y a b = omega arith

pub digits-size : (n : ℕ) → digits n ≡ size n
unfolding digits_in
digits-size zero = le_antisymm (omega arith) (size-le 0 0 (omega arith))
digits-size (suc n) =
    let d = digits_in n (suc n / 2) in
    let l : 2 ^ suc d ≤ 2 * suc n = digits-lower (suc n) (suc n) (omega arith) (omega arith) in
    let u : suc n < 2 ^ suc d = digits-upper (suc n) (suc n) (omega arith) in
    sym (size_exact d (suc n) (low (suc n) (2 ^ d) (2 ^ suc d) l (pow-succ' 2 d)) u)
  where
    low : (m x y : ℕ) → y ≤ 2 * m → y ≡ 2 * x → x ≤ m
    low m x y a b = omega arith

pub closest-logic : (a b : ℕ) → closest a b ≡ Logic.closest a b
closest-logic a b = go (compare (a % b * 2) b)
  where
    go : (o : Ordering) → up_or_down (a / b) o ≡ nearest (a / b) o
    go Ordering.lt = refl
    go Ordering.eq = refl
    go Ordering.gt = refl

pub pattern-logic : (num den : ℕ) → pattern num den ≡ (size (num / den) - 24) * 8388608 + Logic.closest num (den * 2 ^ (size (num / den) - 24))
unfolding pattern_at
pattern-logic num den =
    ap (λ (k : ℕ). (k - 24) * 8388608 + closest num (den * 2 ^ (k - 24))) (digits-size (num / den))
    ∙ ap (λ (c : ℕ). (size (num / den) - 24) * 8388608 + c) (closest-logic num (den * 2 ^ (size (num / den) - 24)))
