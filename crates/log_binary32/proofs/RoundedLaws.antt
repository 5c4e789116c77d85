-- What `rounded` and `portion` give, by the rule of `Nearest`: a finite result is the nearest pattern with its sign, and a portion is always that, at most 1. Assumes nothing.
use Rattle.std.specs.Prelude.{◌≡◌, refl, ℕ, suc, ◌+◌, ◌-◌, ◌*◌, ◌/◌, ◌%◌, ◌^◌, ◌≤◌, ◌<◌, min, Bool, true, false, cond}
use Rattle.std.proofs.Common.{sym, ap, ◌∙◌, subst, inl, inr, le_trans, le_of_eq, lt_of_le_of_lt, lt_of_not-le, mul_assoc, mul-pos, mul-div_cancel, mul_comm, mul-le-mul_right, mul-lt-mul_of_pos_right, eq-or-lt_of_le, arith, pow-add, pow_pos, pow_mono, shl_lt, le-leb}
use Rattle.std.proofs.Math.Nat.{eq_of_mul-eq-mul_right}
use Rattle.std.specs.Float.Ieee.{size}
use Rattle.std.specs.Float.Ieee.Digits.{size-le}
use Rattle.std.specs.Float.Ieee.Nearest.{closest}
use Rattle.std.proofs.lemmas.Bool.{lt-leb}
use Rattle.log_binary32.specs.Binary32.{negative, unsigned, units_of, field_units, pattern, rounded, portion, apart, Nearest}
use Rattle.log_binary32.proofs.NearestLaws.{pattern-nearest, units_mono, units-injective, closest-best, own}

-- the two parts of a result
pub rounded-sign : (s : Bool) (num den : ℕ) → negative (rounded s num den) ≡ s
unfolding rounded
rounded-sign true num den = le-leb 2147483648 (2147483648 + min 2139095040 (pattern num den)) (omega arith)
rounded-sign false num den = lt-leb 2147483648 (0 + min 2139095040 (pattern num den)) (omega arith)

rest : (s : Bool) (p : ℕ) → (cond s 2147483648 0 + min 2139095040 p) % 2147483648 ≡ min 2139095040 p
rest true p = omega arith
rest false p = omega arith

pub rounded_rest : (s : Bool) (num den : ℕ) → unsigned (rounded s num den) ≡ min 2139095040 (pattern num den)
unfolding rounded
rounded_rest s num den = rest s (pattern num den)

-- a finite result is the nearest
pub rounded-nearest : (s : Bool) (num den : ℕ) → 0 < den → unsigned (rounded s num den) < 2139095040 → Nearest num den (unsigned (rounded s num den))
rounded-nearest s num den D h =
    subst (Nearest num den) (sym (rounded_rest s num den ∙ under (pattern num den) (subst (λ (z : ℕ). z < 2139095040) (rounded_rest s num den) h))) (pattern-nearest num den D)
  where
    under : (p : ℕ) → min 2139095040 p < 2139095040 → min 2139095040 p ≡ p
    under p l = omega arith

-- ---- a nearest pattern is at most any that stands for no less than the fraction
farther : (a b c : ℕ) → a ≤ b → b < c → apart a c ≤ apart a b → ⊥
farther a b c x y z = omega arith

pub nearest-under : (num den p q : ℕ) → 0 < den → Nearest num den p → num ≤ units_of q * den → p ≤ q
nearest-under num den p q D n h = lt-of-suc (lt_of_not-le (λ (g : q < p). farther num (units_of q * den) (units_of p * den) h (mul-lt-mul_of_pos_right (units_mono q p g) D) (n.nearest q)))
  where
    lt-of-suc : p < suc q → p ≤ q
    lt-of-suc l = omega arith

-- 1 is the pattern 1065353216, of 2 ^ 149 units
one : units_of 1065353216 ≡ 2 ^ 149
unfolding field_units
one = refl

module _ (used all : ℕ) (A : 0 < all) (h : used ≤ all) where
  at_most_one : pattern (used * 2 ^ 149) all ≤ 1065353216
  at_most_one =
      nearest-under (used * 2 ^ 149) all (pattern (used * 2 ^ 149) all) 1065353216 A (pattern-nearest (used * 2 ^ 149) all A)
      (le_trans (mul-le-mul_right (2 ^ 149) h) (le_of_eq (mul_comm all (2 ^ 149) ∙ ap (λ (z : ℕ). z * all) (sym one))))

  portion-is : portion used all ≡ pattern (used * 2 ^ 149) all
  unfolding portion rounded
  portion-is = omega (arith, at_most_one)

  -- a portion is the nearest to used / all, and at most 1
  pub portion-nearest : Nearest (used * 2 ^ 149) all (portion used all) × (portion used all ≤ 1065353216)
  portion-nearest = (subst (Nearest (used * 2 ^ 149) all) (sym portion-is) (pattern-nearest (used * 2 ^ 149) all A), le_trans (le_of_eq portion-is) at_most_one)

-- ---- overflow: exactly from halfway between the largest f32, 2 ^ 277 - 2 ^ 253 units, and 2 ^ 277 units on
units-le : (p q : ℕ) → p ≤ q → units_of p ≤ units_of q
units-le p q h = elim (eq-or-lt_of_le h) [ inl e ↦ le_of_eq (ap units_of e) | inr l ↦ le-of-succ (units_of p) (units_of q) (units_mono p q l) ]
  where
    le-of-succ : (a b : ℕ) → a < b → a ≤ b
    le-of-succ a b l = omega arith

-- A ≤ M < C, and a at least halfway from M to C: A is no nearer than C, and as near only where it is M
half : (a A M C : ℕ) → A ≤ M → M < C → M + C ≤ a * 2 → apart a A ≤ apart a C → (apart a C ≡ apart a A) × (A ≡ M)
half a A M C x y z h = (omega arith, omega arith)

under-half : (a P M C : ℕ) → M < C → C ≤ P → a * 2 < M + C → apart a P ≤ apart a M → ⊥
under-half a P M C x y z h = omega arith

module _ (num den : ℕ) (D : 0 < den) (halfway : ℕ) (H : halfway ≡ units_of 2139095039 * den + units_of 2139095040 * den) where
  top-gap : units_of 2139095039 * den < units_of 2139095040 * den
  top-gap = mul-lt-mul_of_pos_right (units_mono 2139095039 2139095040 (omega arith)) D

  pub overflows : halfway ≤ num * 2 → 2139095040 ≤ pattern num den
  overflows h = lt_of_not-le no
    where
      no : pattern num den ≤ 2139095039 → ⊥
      no g =
          let p = pattern num den in
          let n : Nearest num den p = pattern-nearest num den D in
          let e = half num (units_of p * den) (units_of 2139095039 * den) (units_of 2139095040 * den) (mul-le-mul_right den (units-le p 2139095039 g)) top-gap (subst (λ (z : ℕ). z ≤ num * 2) H h) (n.nearest 2139095040) in
          let is : p ≡ 2139095039 = units-injective p 2139095039 (eq_of_mul-eq-mul_right den D (units_of p) (units_of 2139095039) e.1) in
          elim (n.tie 2139095040 e.0) [
            | inl s ↦ apart-two p is s
            | inr z ↦ odd p is z
          ]
        where
          apart-two : (p : ℕ) → p ≡ 2139095039 → 2139095040 ≡ p → ⊥
          apart-two p a b = omega arith

          odd : (p : ℕ) → p ≡ 2139095039 → p % 2 ≡ 0 → ⊥
          odd p a b = omega arith

  pub stays-finite : num * 2 < halfway → pattern num den < 2139095040
  stays-finite h = lt_of_not-le (λ (g : 2139095040 ≤ pattern num den).
      under-half num (units_of (pattern num den) * den) (units_of 2139095039 * den) (units_of 2139095040 * den) top-gap (mul-le-mul_right den (units-le 2139095040 (pattern num den) g)) (subst (λ (z : ℕ). num * 2 < z) H h) ((pattern-nearest num den D).nearest 2139095039))

ends : (units_of 2139095039 ≡ 2 ^ 277 - 2 ^ 253) × (units_of 2139095040 ≡ 2 ^ 277)
unfolding field_units
ends = (refl, refl)

-- ---- document 02's portions of 1, 2, 4 to 128 blocks: no rounding takes place
-- a fraction of a power of two whose numerator has at most 24 digits
module _ (used j : ℕ) (U : used < 16777216) (J : j ≤ 149) where
  abbrev whole : ℕ
  whole = used * 2 ^ (149 - j)

  split : whole * 2 ^ j ≡ used * 2 ^ 149
  split =
      let e : 149 - j + j ≡ 149 = omega arith in
      mul_assoc used (2 ^ (149 - j)) (2 ^ j) ∙ ap (λ (z : ℕ). used * z) (sym (pow-add 2 (149 - j) j) ∙ ap (λ (z : ℕ). 2 ^ z) e)

  quotient : used * 2 ^ 149 / 2 ^ j ≡ whole
  quotient = ap (λ (z : ℕ). z / 2 ^ j) (sym split) ∙ mul-div_cancel whole (pow_pos j)

  abbrev dropped : ℕ
  dropped = size (used * 2 ^ 149 / 2 ^ j) - 24

  few : dropped ≤ 149 - j
  few = less (size (used * 2 ^ 149 / 2 ^ j)) (149 - j) (subst (λ (z : ℕ). size z ≤ 24 + (149 - j)) (sym quotient) (size-le whole (24 + (149 - j)) (shl_lt 24 (149 - j) U)))
    where
      less : (a b : ℕ) → a ≤ 24 + b → a - 24 ≤ b
      less a b h = omega arith

  abbrev times : ℕ
  times = used * 2 ^ (149 - j - dropped)

  multiple : times * (2 ^ j * 2 ^ dropped) ≡ used * 2 ^ 149
  multiple =
      let e : 149 - j - dropped + dropped ≡ 149 - j = rejoin (149 - j) dropped few in
      let w : times * 2 ^ dropped ≡ whole = mul_assoc used (2 ^ (149 - j - dropped)) (2 ^ dropped) ∙ ap (λ (z : ℕ). used * z) (sym (pow-add 2 (149 - j - dropped) dropped) ∙ ap (λ (z : ℕ). 2 ^ z) e) in
      ap (λ (z : ℕ). times * z) (mul_comm (2 ^ j) (2 ^ dropped)) ∙ sym (mul_assoc times (2 ^ dropped) (2 ^ j)) ∙ ap (λ (z : ℕ). z * 2 ^ j) w ∙ split
    where
      rejoin : (a b : ℕ) → b ≤ a → a - b + b ≡ a
      rejoin a b h = omega arith

  pub pattern-exact : units_of (pattern (used * 2 ^ 149) (2 ^ j)) * 2 ^ j ≡ used * 2 ^ 149
  pattern-exact =
      let num = used * 2 ^ 149 in
      let u = 2 ^ j * 2 ^ dropped in
      own num (2 ^ j) (pow_pos j) ∙ none num (closest num u * u) (times * u) multiple (closest-best num u times (mul-pos (pow_pos j) (pow_pos dropped))).0
    where
      none : (n a b : ℕ) → b ≡ n → apart n a ≤ apart n b → a ≡ n
      none n a b e h = omega arith

pub portion-exact : (used j : ℕ) → used ≤ 2 ^ j → j ≤ 7 → units_of (portion used (2 ^ j)) * 2 ^ j ≡ used * 2 ^ 149
portion-exact used j h s =
    let u : used < 16777216 = lt_of_le_of_lt (le_trans h (pow_mono s)) (omega arith) in
    ap (λ (p : ℕ). units_of p * 2 ^ j) (portion-is used (2 ^ j) (pow_pos j) h) ∙ pattern-exact used j u (le_trans s (omega arith))
