-- The bits that the logic writes for a rounded fraction are `rounded` of specs/Binary32.antt. Assumes nothing.
use mathlib.Core.Path.{◌≡◌, refl, sym, ap, ◌∙◌, subst}
use mathlib.Core.Logic.{◌⊎◌, inl, inr}
use Prim.Native.Nat.{ℕ, suc, ◌+◌, ◌-◌, ◌*◌, ◌/◌, ◌^◌, ◌≤◌, ◌<◌, min}
use native.Mathlib.Nat.{le_trans, le_of_eq, lt_of_le_of_lt, lt_of_not-le, not-le_of_lt, eq-or-lt_of_le, eq-zero-or-pos, mul-one, mul_comm, mul_assoc, mul-pos, mul-le-mul_right, mul-div_cancel, div-one, pow-succ'}
use native.Mathlib.Omega.{arith}
use mathlib.Core.Bool.{Bool, true, false, not, cond}
use lib.Dec.{T, ltb, ltb→lt, nltb→le}
use lib.Pow.{pow-add, pow_pos, pow_mono, shl_lt}
use lib.Ieee.{Float, nan, inf, fin, binary32, down, size, odd, units, round, to_bits}
use lib.Ieee.Digits.{size-le}
use lib.Ieee.Fits.{down_pos, round_is}
use lib.Ieee.Exact.{HasValue, odd_sign}
use lib.Ieee.Nearest.{closest, closest_same, div_same}
use Rattle.log_binary32.specs.Binary32.{pattern, rounded}
use Rattle.log_binary32.proofs.DigitsLaws.{size_exact, pattern-logic}
use Rattle.log_binary32.proofs.NearestLaws.{kept-le, kept-ge}

-- ---- how many digits are dropped of q * 2 ^ k
-- the pattern of n units, where n is q * 2 ^ k
abbrev bits_at : ℕ → ℕ → ℕ
bits_at z n = z * 8388608 + n / 2 ^ z

small : (z : ℕ) → z ≤ 24 → z - 24 ≡ 0
small z h = omega arith

over : (z k : ℕ) → z ≡ suc (23 + k) → z - 24 ≡ k
over z k h = omega arith

over' : (z k : ℕ) → z ≡ suc (24 + k) → z - 24 ≡ suc k
over' z k h = omega arith

at_zero : (q : ℕ) → q < 16777216 → bits_at (size (q * 1) - 24) (q * 1) ≡ 0 * 8388608 + q
at_zero q h =
    let z : size (q * 1) - 24 ≡ 0 = small (size (q * 1)) (size-le (q * 1) 24 (subst (λ (x : ℕ). x < 16777216) (sym (mul-one q)) h)) in
    ap (λ (x : ℕ). bits_at x (q * 1)) z ∙ ap (λ (x : ℕ). 0 * 8388608 + x) (div-one (q * 1) ∙ mul-one q)

plus : (k : ℕ) → 24 + k ≡ suc (23 + k)
plus k = omega arith

in-normal : (q k : ℕ) → 8388608 ≤ q → q < 16777216 → bits_at (size (q * 2 ^ k) - 24) (q * 2 ^ k) ≡ k * 8388608 + q
in-normal q k lo hi =
    let l : 2 ^ (23 + k) ≤ q * 2 ^ k = le_trans (le_of_eq (pow-add 2 23 k)) (mul-le-mul_right (2 ^ k) lo) in
    let u : q * 2 ^ k < 2 ^ suc (23 + k) = subst (λ (x : ℕ). q * 2 ^ k < 2 ^ x) (plus k) (shl_lt 24 k hi) in
    ap (λ (x : ℕ). bits_at x (q * 2 ^ k)) (over (size (q * 2 ^ k)) k (size_exact (23 + k) (q * 2 ^ k) l u))
    ∙ ap (λ (x : ℕ). k * 8388608 + x) (mul-div_cancel q (pow_pos k))

carried : (k a : ℕ) → a ≡ 8388608 → suc k * 8388608 + a ≡ k * 8388608 + 16777216
carried k a e = omega arith

plus' : (k : ℕ) → 25 + k ≡ suc (24 + k)
plus' k = omega arith

at-carry : (k : ℕ) → bits_at (size (16777216 * 2 ^ k) - 24) (16777216 * 2 ^ k) ≡ k * 8388608 + 16777216
at-carry k =
    let n = 16777216 * 2 ^ k in
    let l : 2 ^ (24 + k) ≤ n = le_of_eq (pow-add 2 24 k) in
    let u : n < 2 ^ suc (24 + k) = subst (λ (x : ℕ). n < 2 ^ x) (plus' k) (shl_lt 25 k (omega arith)) in
    let e : n ≡ 8388608 * 2 ^ suc k = sym (ap (λ (x : ℕ). 8388608 * x) (pow-succ' 2 k) ∙ sym (mul_assoc 8388608 2 (2 ^ k))) in
    ap (λ (x : ℕ). bits_at x n) (over' (size n) k (size_exact (24 + k) n l u))
    ∙ carried k (n / 2 ^ suc k) (ap (λ (x : ℕ). x / 2 ^ suc k) e ∙ mul-div_cancel 8388608 (pow_pos (suc k)))

pub kept-bits : (q k : ℕ) → q ≤ 16777216 → (0 < k → 8388608 ≤ q) → bits_at (size (q * 2 ^ k) - 24) (q * 2 ^ k) ≡ k * 8388608 + q
kept-bits q k h g = elim (eq-or-lt_of_le h) [
  | inl e ↦ subst (λ (x : ℕ). bits_at (size (x * 2 ^ k) - 24) (x * 2 ^ k) ≡ k * 8388608 + x) (sym e) (at-carry k)
  | inr l ↦ elim (eq-zero-or-pos k) [
    | inl z ↦ subst (λ (x : ℕ). bits_at (size (q * 2 ^ x) - 24) (q * 2 ^ x) ≡ x * 8388608 + q) (sym z) (at_zero q l)
    | inr p ↦ in-normal q k (g p) l
  ]
]

-- ---- where it overflows: 2 ^ 277 units
abbrev Three : (k m : ℕ) → Type 0
Three k m = (suc k ≤ m) ⊎ ((k ≡ m) ⊎ (suc m ≤ k))

split : (k m : ℕ) → Three k m
split k m = go (ltb k m) (ltb→lt k m) (nltb→le k m)
  where
    go : (b : Bool) → (T b → k < m) → (T (not b) → m ≤ k) → Three k m
    go true a c = inl (a tt)
    go false a c = elim (eq-or-lt_of_le (c tt)) [ inl e ↦ inr (inl (sym e)) | inr l ↦ inr (inr l) ]

clash : (a b c : ℕ) → a < b → b ≤ c → c ≤ a → ⊥
clash a b c x y z = omega arith

fine-low : (q k : ℕ) → q ≤ 16777216 → suc k ≤ 253 → k * 8388608 + q < 2139095040
fine-low q k h l = omega arith

fine-mid : (q k : ℕ) → q < 16777216 → k ≡ 253 → k * 8388608 + q < 2139095040
fine-mid q k h l = omega arith

big-high : (q k : ℕ) → 8388608 ≤ q → 254 ≤ k → 2139095040 ≤ k * 8388608 + q
big-high q k h l = omega arith

big-mid : (q k : ℕ) → 16777216 ≤ q → k ≡ 253 → 2139095040 ≤ k * 8388608 + q
big-mid q k h l = omega arith

pos_of : (k : ℕ) → 254 ≤ k → 0 < k
pos_of k h = omega arith

low-k : (k : ℕ) → suc k ≤ 253 → k ≤ 252
low-k k h = omega arith

pub under : (q k : ℕ) → q ≤ 16777216 → (0 < k → 8388608 ≤ q) → q * 2 ^ k < 2 ^ 277 → k * 8388608 + q < 2139095040
under q k h g s = elim (split k 253) [
  | inl l ↦ fine-low q k h l
  | inr r ↦ elim r [
    | inl e ↦ fine-mid q k (lt_of_not-le (λ (n : 16777216 ≤ q). not-le_of_lt s (subst (λ (x : ℕ). 2 ^ 277 ≤ q * 2 ^ x) (sym e) (mul-le-mul_right (2 ^ 253) n)))) e
    | inr m ↦ absurd (not-le_of_lt s (le_trans (le_of_eq (pow-add 2 23 254)) (le_trans (mul-le-mul_right (2 ^ 254) (g (pos_of k m))) (le_trans (le_of_eq (mul_comm q (2 ^ 254))) (le_trans (mul-le-mul_right q (pow_mono m)) (le_of_eq (mul_comm (2 ^ k) q)))))))
  ]
]

pub reaches : (q k : ℕ) → q ≤ 16777216 → (0 < k → 8388608 ≤ q) → 2 ^ 277 ≤ q * 2 ^ k → 2139095040 ≤ k * 8388608 + q
reaches q k h g s = elim (split k 253) [
  | inl l ↦ absurd (not-le_of_lt (lt_of_le_of_lt (le_trans (mul-le-mul_right (2 ^ k) h) (le_trans (le_of_eq (sym (pow-add 2 24 k))) (pow_mono (below k l)))) few) s)
  | inr r ↦ elim r [
    | inl e ↦ big-mid q k (lt_of_not-le (λ (n : q ≤ 16777215). not-le_of_lt (lt_of_le_of_lt (subst (λ (x : ℕ). q * 2 ^ x ≤ 16777215 * 2 ^ 253) (sym e) (mul-le-mul_right (2 ^ 253) n)) few') s)) e
    | inr m ↦ big-high q k (g (pos_of k m)) m
  ]
]
  where
    below : (j : ℕ) → suc j ≤ 253 → 24 + j ≤ 276
    below j l = omega arith

    few : 2 ^ 276 < 2 ^ 277
    few = ltb→lt (2 ^ 276) (2 ^ 277) tt

    few' : 16777215 * 2 ^ 253 < 2 ^ 277
    few' = ltb→lt (16777215 * 2 ^ 253) (2 ^ 277) tt

-- ---- the bits of a value of a units
pub val-bits : (x : Float) (s : Bool) (a : ℕ) → HasValue x s a (2 ^ 149) → to_bits binary32 x ≡ cond s 2147483648 0 + bits_at (size a - 24) a
unfolding to_bits
val-bits nan s a v = absurd v
val-bits (inf t) s a v = absurd v
val-bits (fin t m e) s a v =
    ap (λ (n : ℕ). cond t 2147483648 0 + (size n - 24) * 8388608 + n / 2 ^ (size n - 24)) (ap (λ (x : ℕ). x / down e) v.1 ∙ mul-div_cancel a (down_pos e))
    ∙ regroup (cond t 2147483648 0) ((size a - 24) * 8388608) (a / 2 ^ (size a - 24))
    ∙ ap (λ (b : Bool). cond b 2147483648 0 + bits_at (size a - 24) a) v.0
  where
    regroup : (x y z : ℕ) → x + y + z ≡ x + (y + z)
    regroup x y z = omega arith

min-below : (a p : ℕ) → p < a → p ≡ min a p
min-below a p h = omega arith

min-above : (a p : ℕ) → a ≤ p → a ≡ min a p
min-above a p h = omega arith

inf_bits : (s : Bool) → to_bits binary32 (inf s) ≡ cond s 2147483648 0 + 2139095040
unfolding to_bits
inf_bits s = refl

pub units-bits : (s : Bool) (q k : ℕ) → q ≤ 16777216 → (0 < k → 8388608 ≤ q) → to_bits binary32 (units binary32 s q k) ≡ cond s 2147483648 0 + min 2139095040 (k * 8388608 + q)
unfolding units
units-bits s q k h g = go (ltb (q * 2 ^ k) (2 ^ 277)) (ltb→lt (q * 2 ^ k) (2 ^ 277)) (nltb→le (q * 2 ^ k) (2 ^ 277))
  where
    go : (b : Bool) → (T b → q * 2 ^ k < 2 ^ 277) → (T (not b) → 2 ^ 277 ≤ q * 2 ^ k) → to_bits binary32 (cond b (odd 25 s q k 149) (inf s)) ≡ cond s 2147483648 0 + min 2139095040 (k * 8388608 + q)
    go true a c =
        val-bits (odd 25 s q k 149) s (q * 2 ^ k) (odd_sign 25 s q k 149)
        ∙ ap (λ (x : ℕ). cond s 2147483648 0 + x) (kept-bits q k h g ∙ min-below 2139095040 (k * 8388608 + q) (under q k h g (a tt)))
    go false a c = inf_bits s ∙ ap (λ (x : ℕ). cond s 2147483648 0 + x) (min-above 2139095040 (k * 8388608 + q) (reaches q k h g (c tt)))

-- ---- equal fractions have the same pattern
pub pattern-same : (a b c d : ℕ) → 0 < b → 0 < d → a * d ≡ c * b → pattern a b ≡ pattern c d
pattern-same a b c d B D e =
    let k : size (a / b) - 24 ≡ size (c / d) - 24 = ap (λ (z : ℕ). size z - 24) (div_same a b c d B D e) in
    let j = size (c / d) - 24 in
    let y : a * (d * 2 ^ j) ≡ c * (b * 2 ^ j) = sym (mul_assoc a d (2 ^ j)) ∙ ap (λ (z : ℕ). z * 2 ^ j) e ∙ mul_assoc c b (2 ^ j) in
    pattern-logic a b
    ∙ ap (λ (z : ℕ). z * 8388608 + closest a (b * 2 ^ z)) k
    ∙ ap (λ (z : ℕ). j * 8388608 + z) (closest_same a (b * 2 ^ j) c (d * 2 ^ j) (mul-pos B (pow_pos j)) (mul-pos D (pow_pos j)) y)
    ∙ sym (pattern-logic c d)

-- ---- the logic's rounding of num / den, which is a / c units
pub round-bits : (s : Bool) (num den a c : ℕ) → 0 < den → 0 < c → num * 2 ^ 149 * c ≡ a * den → to_bits binary32 (round binary32 s num den) ≡ rounded s a c
unfolding rounded
round-bits s num den a c B C e =
    let n = num * 2 ^ 149 in
    let k = size (n / den) - 24 in
    ap (to_bits binary32) (round_is binary32 s num den)
    ∙ units-bits s (closest n (den * 2 ^ k)) k (kept-le n den) (kept-ge n den)
    ∙ ap (λ (p : ℕ). cond s 2147483648 0 + min 2139095040 p) (sym (pattern-logic n den) ∙ pattern-same n den a c B C e)
