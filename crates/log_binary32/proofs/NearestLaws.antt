-- `pattern num den` is the one pattern that is nearest to num / den units, at a tie the even one: the rounding rule of IEEE 754, over whole numbers. Assumes nothing.
use Rattle.std.specs.Prelude.{◌≡◌, refl, ◌⊎◌, Bool, true, false, not, T, ltb, eqb}
use Rattle.std.proofs.Common.{sym, ap, ◌∙◌, subst, inl, inr, le_refl, le_trans, le_of_eq, le_of_lt, le_antisymm, lt_of_lt_of_le, eq-or-lt_of_le, eq-zero-or-pos, mul-one, mul_comm, mul_assoc, mul-pos, mul-le-mul_right, mul-le-mul_left, mul-lt-mul_of_pos_right, le-div_iff_mul-le, div-add-mod', mod-lt, suc-mul, div-mul-le_self, arith, leb→le, eqb→eq, ltb→lt, nltb→le, pow-add, pow_pos, pow_mono}
use Prim.Native.Nat.{ℕ, zero, suc, ◌+◌, ◌-◌, ◌*◌, ◌/◌, ◌%◌, ◌^◌, ◌≤◌, ◌<◌, compare, Ordering}
use Rattle.std.proofs.Math.Nat.{div-div-eq-div-mul, pow-succ', eq_of_mul-eq-mul_right}
use Rattle.std.proofs.Math.Dec.{is_le, compare_is_eq, nleb→lt, eqb_refl}
use Rattle.std.proofs.Math.Arith.{lt_of_le-ne}
use Rattle.std.specs.Float.Ieee.{size, nearest}
use Rattle.std.specs.Float.Ieee.Digits.{size_reaches}
use Rattle.std.specs.Float.Ieee.Fits.{kept-lt, nearest-le}
use Rattle.std.specs.Float.Ieee.Nearest.{closest, nearest-ge}
use Rattle.log_binary32.specs.Binary32.{field_units, units_of, pattern, apart, Nearest}
use Rattle.log_binary32.proofs.DigitsLaws.{pattern-logic}

-- ---- what is kept of n / den
pub kept-le : (n den : ℕ) → closest n (den * 2 ^ (size (n / den) - 24)) ≤ 16777216
kept-le n den =
    let k = size (n / den) - 24 in
    let u = den * 2 ^ k in
    le_trans (nearest-le (n / u) (compare (n % u * 2) u)) (subst (λ (x : ℕ). x < 16777216) (div-div-eq-div-mul n den (2 ^ k)) (kept-lt 24 (n / den)))

all_in_use : (z : ℕ) → 0 < z - 24 → 23 + (z - 24) < z
all_in_use z h = omega arith

pub whole-ge : (n den : ℕ) → 0 < size (n / den) - 24 → 8388608 * 2 ^ (size (n / den) - 24) ≤ n / den
whole-ge n den K =
    let k = size (n / den) - 24 in
    le_trans (le_of_eq (sym (pow-add 2 23 k))) (size_reaches (n / den) (23 + k) (all_in_use (size (n / den)) K))

pub kept-ge : (n den : ℕ) → 0 < size (n / den) - 24 → 8388608 ≤ closest n (den * 2 ^ (size (n / den) - 24))
kept-ge n den K =
    let k = size (n / den) - 24 in
    let u = den * 2 ^ k in
    le_trans (subst (λ (x : ℕ). 8388608 ≤ x) (div-div-eq-div-mul n den (2 ^ k)) ((le-div_iff_mul-le (pow_pos k)).1 (whole-ge n den K))) (nearest-ge (n / u) (compare (n % u * 2) u))

either : (a b : ℕ) → (a < b) ⊎ (b ≤ a)
either a b = go (ltb a b) (ltb→lt a b) (nltb→le a b)
  where
    go : (t : Bool) → (T t → a < b) → (T (not t) → b ≤ a) → (a < b) ⊎ (b ≤ a)
    go true x y = inl (x tt)
    go false x y = inr (y tt)

-- ---- larger patterns stand for larger numbers
lead-step : (x : ℕ) → 16777216 * 2 ^ x ≡ 8388608 * 2 ^ suc x
lead-step x = sym (ap (λ (z : ℕ). 8388608 * z) (pow-succ' 2 x) ∙ sym (mul_assoc 8388608 2 (2 ^ x)))

field_below : (x t : ℕ) → t < 8388608 → field_units x t < 8388608 * 2 ^ x
unfolding field_units
field_below zero t h = subst (λ (z : ℕ). t < z) (sym (mul-one 8388608)) h
field_below (suc x) t h = subst (λ (z : ℕ). (8388608 + t) * 2 ^ x < z) (lead-step x) (mul-lt-mul_of_pos_right (twice t h) (pow_pos x))
  where
    twice : (s : ℕ) → s < 8388608 → 8388608 + s < 16777216
    twice s k = omega arith

field-above : (x t : ℕ) → 8388608 * 2 ^ x ≤ field_units (suc x) t
unfolding field_units
field-above x t = mul-le-mul_right (2 ^ x) (more t)
  where
    more : (s : ℕ) → 8388608 ≤ 8388608 + s
    more s = omega arith

field_step : (x t t' : ℕ) → t < t' → field_units x t < field_units x t'
unfolding field_units
field_step zero t t' h = h
field_step (suc x) t t' h = mul-lt-mul_of_pos_right (shift t t' h) (pow_pos x)
  where
    shift : (s s' : ℕ) → s < s' → 8388608 + s < 8388608 + s'
    shift s s' k = omega arith

field-jump : (x y t t' : ℕ) → x < y → t < 8388608 → field_units x t < field_units y t'
field-jump x zero t t' l h = absurd (omega arith)
field-jump x (suc y) t t' l h = lt_of_lt_of_le (field_below x t h) (le_trans (mul-le-mul_left 8388608 (pow_mono (le_pred x y l))) (field-above y t'))
  where
    le_pred : (a b : ℕ) → a < suc b → a ≤ b
    le_pred a b k = omega arith

pub units_mono : (p q : ℕ) → p < q → units_of p < units_of q
units_mono p q h = elim (eq-or-lt_of_le (fields p q h)) [
  | inl e ↦ subst (λ (x : ℕ). units_of p < field_units x (q % 8388608)) e (field_step (p / 8388608) (p % 8388608) (q % 8388608) (rests p q h e))
  | inr l ↦ field-jump (p / 8388608) (q / 8388608) (p % 8388608) (q % 8388608) l (inside p)
]
  where
    fields : (a b : ℕ) → a < b → a / 8388608 ≤ b / 8388608
    fields a b k = omega arith

    rests : (a b : ℕ) → a < b → a / 8388608 ≡ b / 8388608 → a % 8388608 < b % 8388608
    rests a b k e = omega arith

    inside : (a : ℕ) → a % 8388608 < 8388608
    inside a = omega arith

pub units-injective : (p q : ℕ) → units_of p ≡ units_of q → p ≡ q
units-injective p q e = elim (either p q) [
  | inl l ↦ absurd (differ (units_of p) (units_of q) (units_mono p q l) e)
  | inr g ↦ elim (eq-or-lt_of_le g) [ inl s ↦ sym s | inr l ↦ absurd (differ (units_of q) (units_of p) (units_mono q p l) (sym e)) ]
]
  where
    differ : (a b : ℕ) → a < b → a ≡ b → ⊥
    differ a b l s = omega arith

-- ---- the units of what `pattern` writes
low-pattern : (q : ℕ) → q < 8388608 → ((0 * 8388608 + q) / 8388608 ≡ 0) × ((0 * 8388608 + q) % 8388608 ≡ q)
low-pattern q h = (omega arith, omega arith)

mid-pattern : (q k : ℕ) → 8388608 ≤ q → q < 16777216 → ((k * 8388608 + q) / 8388608 ≡ suc k) × ((k * 8388608 + q) % 8388608 ≡ q - 8388608)
mid-pattern q k h l = (omega arith, omega arith)

top-pattern : (k : ℕ) → ((k * 8388608 + 16777216) / 8388608 ≡ suc (suc k)) × ((k * 8388608 + 16777216) % 8388608 ≡ 0)
top-pattern k = (omega arith, omega arith)

at_fields : (p x t : ℕ) → (p / 8388608 ≡ x) × (p % 8388608 ≡ t) → units_of p ≡ field_units x t
at_fields p x t e = ap (λ (y : ℕ). field_units y (p % 8388608)) e.0 ∙ ap (λ (s : ℕ). field_units x s) e.1

units-at : (q k : ℕ) → q ≤ 16777216 → (0 < k → 8388608 ≤ q) → units_of (k * 8388608 + q) ≡ q * 2 ^ k
unfolding field_units
units-at q k h g = elim (eq-or-lt_of_le h) [
  | inl e ↦ subst (λ (z : ℕ). units_of (k * 8388608 + z) ≡ z * 2 ^ k) (sym e) (at_fields (k * 8388608 + 16777216) (suc (suc k)) 0 (top-pattern k) ∙ sym (lead-step k))
  | inr l ↦ elim (either q 8388608) [
    | inl s ↦ subst (λ (z : ℕ). units_of (z * 8388608 + q) ≡ q * 2 ^ z) (sym (none s)) (at_fields (0 * 8388608 + q) 0 q (low-pattern q s) ∙ sym (mul-one q))
    | inr m ↦ at_fields (k * 8388608 + q) (suc k) (q - 8388608) (mid-pattern q k m l) ∙ ap (λ (z : ℕ). z * 2 ^ k) (rejoin q m)
  ]
]
  where
    none : q < 8388608 → k ≡ 0
    none s = elim (eq-zero-or-pos k) [ inl z ↦ z | inr p ↦ absurd (both q s (g p)) ]
      where
        both : (a : ℕ) → a < 8388608 → 8388608 ≤ a → ⊥
        both a x y = omega arith

    rejoin : (a : ℕ) → 8388608 ≤ a → 8388608 + (a - 8388608) ≡ a
    rejoin a x = omega arith

-- ---- the closest whole number: what `compare` says, then the two ways to round
abbrev Cmp : Ordering → ℕ → ℕ → Type 0
Cmp Ordering.lt a b = a < b
Cmp Ordering.eq a b = a ≡ b
Cmp Ordering.gt a b = b < a

cmp : (a b : ℕ) → Cmp (compare a b) a b
cmp a b = go (compare a b) (leb→le a b) (nleb→lt a b) (eqb→eq a b) (λ (e : a ≡ b). subst (λ (x : ℕ). T (eqb a x)) e (eqb_refl a))
  where
    go : (o : Ordering) → (T (is_le o) → a ≤ b) → (T (not (is_le o)) → b < a) → (T (compare_is_eq o) → a ≡ b) → (a ≡ b → T (compare_is_eq o)) → Cmp o a b
    go Ordering.lt h k e n = lt_of_le-ne (h tt) n
    go Ordering.eq h k e n = e tt
    go Ordering.gt h k e n = k tt

-- c is w, with r at most a half of u, or the next; and even at a half
abbrev Down : ℕ → ℕ → ℕ → ℕ → Type 0
Down c w r u = (c ≡ w) × (r * 2 ≤ u) × (r * 2 ≡ u → c % 2 ≡ 0)

abbrev Up : ℕ → ℕ → ℕ → ℕ → Type 0
Up c w r u = (c ≡ suc w) × (u ≤ r * 2) × (r * 2 ≡ u → c % 2 ≡ 0)

ways : (w r u : ℕ) (o : Ordering) → Cmp o (r * 2) u → Down (nearest w o) w r u ⊎ Up (nearest w o) w r u
ways w r u Ordering.lt h = inl (refl, le_of_lt h, λ (e : r * 2 ≡ u). absurd (omega arith))
ways w r u Ordering.gt h = inr (refl, le_of_lt h, λ (e : r * 2 ≡ u). absurd (omega arith))
ways w r u Ordering.eq h = elim (eq-zero-or-pos (w % 2)) [
  | inl z ↦ inl (even w z, le_of_eq h, λ (e : r * 2 ≡ u). even' w z)
  | inr p ↦ inr (odd w p, le_of_eq (sym h), λ (e : r * 2 ≡ u). odd' w p)
]
  where
    even : (a : ℕ) → a % 2 ≡ 0 → a + a % 2 ≡ a
    even a z = omega arith

    even' : (a : ℕ) → a % 2 ≡ 0 → (a + a % 2) % 2 ≡ 0
    even' a z = omega arith

    odd : (a : ℕ) → 0 < a % 2 → a + a % 2 ≡ suc a
    odd a p = omega arith

    odd' : (a : ℕ) → 0 < a % 2 → (a + a % 2) % 2 ≡ 0
    odd' a p = omega arith

-- a is W + r and the others are J and C: multiples of u, J on either side
abbrev Best : ℕ → ℕ → ℕ → ℕ → Type 0
Best a C J c = (apart a C ≤ apart a J) × (apart a J ≡ apart a C → (J ≡ C) ⊎ (c % 2 ≡ 0))

module _ (a W r u J C c : ℕ) (A : W + r ≡ a) (R : r < u) where
  down-low : C ≡ W → J ≤ W → Best a C J c
  down-low e l = (omega arith, λ (h : apart a J ≡ apart a C). inl (omega arith))

  down-high : C ≡ W → W + u ≤ J → r * 2 ≤ u → (r * 2 ≡ u → c % 2 ≡ 0) → Best a C J c
  down-high e l d t = (omega arith, λ (h : apart a J ≡ apart a C). inr (t (omega arith)))

  up-low : C ≡ W + u → J ≤ W → u ≤ r * 2 → (r * 2 ≡ u → c % 2 ≡ 0) → Best a C J c
  up-low e l d t = (omega arith, λ (h : apart a J ≡ apart a C). inr (t (omega arith)))

  up-high : C ≡ W + u → W + u ≤ J → Best a C J c
  up-high e l = (omega arith, λ (h : apart a J ≡ apart a C). inl (omega arith))

next : (w u : ℕ) → suc w * u ≡ w * u + u
next w u = suc-mul w u

pub closest-best : (a u j : ℕ) → 0 < u → Best a (closest a u * u) (j * u) (closest a u)
closest-best a u j P =
    let w = a / u in
    let r = a % u in
    let c = closest a u in
    let A : w * u + r ≡ a = div-add-mod' a u in
    let R : r < u = mod-lt a P in
    elim (ways w r u (compare (r * 2) u) (cmp (r * 2) u)) [
      | inl d ↦
          let C : c * u ≡ w * u = ap (λ (z : ℕ). z * u) d.0 in
          elim (either w j) [
            | inl l ↦ down-high a (w * u) r u (j * u) (c * u) c A R C (le_trans (le_of_eq (sym (next w u))) (mul-le-mul_right u l)) d.1 d.2
            | inr l ↦ down-low a (w * u) r u (j * u) (c * u) c A R C (mul-le-mul_right u l)
          ]
      | inr d ↦
          let C : c * u ≡ w * u + u = ap (λ (z : ℕ). z * u) d.0 ∙ next w u in
          elim (either w j) [
            | inl l ↦ up-high a (w * u) r u (j * u) (c * u) c A R C (le_trans (le_of_eq (sym (next w u))) (mul-le-mul_right u l))
            | inr l ↦ up-low a (w * u) r u (j * u) (c * u) c A R C (mul-le-mul_right u l) d.1 d.2
          ]
    ]

-- ---- any pattern q, beside the multiples of 2 ^ k units
field-split : (k x t : ℕ) → suc k ≤ x → (j : ℕ) × (field_units x t ≡ j * 2 ^ k)
unfolding field_units
field-split k zero t h = absurd (omega arith)
field-split k (suc x) t h = (
  (8388608 + t) * 2 ^ (x - k),
  ap (λ (z : ℕ). (8388608 + t) * 2 ^ z) (sym (back x k h)) ∙ ap (λ (z : ℕ). (8388608 + t) * z) (pow-add 2 (x - k) k) ∙ sym (mul_assoc (8388608 + t) (2 ^ (x - k)) (2 ^ k)),
)
  where
    back : (a b : ℕ) → suc b ≤ suc a → a - b + b ≡ a
    back a b l = omega arith

-- a multiple of 2 ^ k units, or below 2 ^ (23 + k) of them where k is above 0
sorted : (k q : ℕ) → ((j : ℕ) × (units_of q ≡ j * 2 ^ k)) ⊎ ((0 < k) × (units_of q < 8388608 * 2 ^ k))
sorted k q = elim (eq-zero-or-pos k) [
  | inl z ↦ inl (subst (λ (y : ℕ). (j : ℕ) × (units_of q ≡ j * 2 ^ y)) (sym z) (units_of q, sym (mul-one (units_of q))))
  | inr p ↦ elim (either k (q / 8388608)) [
    | inl l ↦ inl (field-split k (q / 8388608) (q % 8388608) l)
    | inr l ↦ inr (p, lt_of_lt_of_le (field_below (q / 8388608) (q % 8388608) (inside q)) (mul-le-mul_left 8388608 (pow_mono l)))
  ]
]
  where
    inside : (a : ℕ) → a % 8388608 < 8388608
    inside a = omega arith

farther : (a C B X c : ℕ) → X < B → B ≤ a → apart a C ≤ apart a B → Best a C X c
farther a C B X c l m h = (omega arith, λ (e : apart a X ≡ apart a C). absurd (omega arith))

module _ (num den : ℕ) (D : 0 < den) where
  abbrev k : ℕ
  k = size (num / den) - 24

  abbrev u : ℕ
  u = den * 2 ^ k

  abbrev c : ℕ
  c = closest num u

  reorder : (j : ℕ) → j * 2 ^ k * den ≡ j * u
  reorder j = mul_assoc j (2 ^ k) den ∙ ap (λ (z : ℕ). j * z) (mul_comm (2 ^ k) den)

  floor-le : 0 < k → 8388608 * u ≤ num
  floor-le p = le_trans (le_of_eq (sym (reorder 8388608))) (le_trans (mul-le-mul_right den (whole-ge num den p)) (div-mul-le_self num den))

  best : (q : ℕ) → Best num (c * u) (units_of q * den) c
  best q = elim (sorted k q) [
    | inl m ↦ subst (λ (z : ℕ). Best num (c * u) z c) (sym (ap (λ (z : ℕ). z * den) m.1 ∙ reorder m.0)) (closest-best num u m.0 (mul-pos D (pow_pos k)))
    | inr b ↦ farther num (c * u) (8388608 * u) (units_of q * den) c (subst (λ (z : ℕ). units_of q * den < z) (reorder 8388608) (mul-lt-mul_of_pos_right b.1 D)) (floor-le b.0) (closest-best num u 8388608 (mul-pos D (pow_pos k))).0
  ]

  pub own : units_of (pattern num den) * den ≡ c * u
  own = ap (λ (z : ℕ). units_of z * den) (pattern-logic num den) ∙ ap (λ (z : ℕ). z * den) (units-at c k (kept-le num den) (kept-ge num den)) ∙ reorder c

  even : c % 2 ≡ 0 → pattern num den % 2 ≡ 0
  even e = ap (λ (z : ℕ). z % 2) (pattern-logic num den) ∙ digit k c e
    where
      digit : (x y : ℕ) → y % 2 ≡ 0 → (x * 8388608 + y) % 2 ≡ 0
      digit x y z = omega arith

  pub pattern-nearest : Nearest num den (pattern num den)
  pattern-nearest = record {
    nearest = λ (q : ℕ). subst (λ (z : ℕ). apart num z ≤ apart num (units_of q * den)) (sym own) (best q).0;
    tie = λ (q : ℕ) (e : apart num (units_of q * den) ≡ apart num (units_of (pattern num den) * den)).
        elim ((best q).1 (e ∙ ap (λ (z : ℕ). apart num z) own)) [
          | inl s ↦ inl (units-injective q (pattern num den) (eq_of_mul-eq-mul_right den D (units_of q) (units_of (pattern num den)) (s ∙ sym own)))
          | inr z ↦ inr (even z)
        ];
  }

-- ---- there is one such pattern
between : (n A B C : ℕ) → A < B → B < C → apart n A ≡ apart n C → apart n A ≤ apart n B → ⊥
between n A B C x y e h = omega arith

gap : (p q : ℕ) → p < q → p % 2 ≡ 0 → q % 2 ≡ 0 → suc p < q
gap p q l a b = omega arith

unlike : (p q : ℕ) → p < q → q ≡ p → ⊥
unlike p q l e = omega arith

no-two : (num den p q : ℕ) → 0 < den → Nearest num den p → Nearest num den q → p < q → ⊥
no-two num den p q D a b l =
    let e : apart num (units_of p * den) ≡ apart num (units_of q * den) = le_antisymm (a.nearest q) (b.nearest p) in
    elim (a.tie q (sym e)) [
      | inl s ↦ unlike p q l s
      | inr x ↦ elim (b.tie p e) [
        | inl s ↦ unlike p q l (sym s)
        | inr y ↦
            between num (units_of p * den) (units_of (suc p) * den) (units_of q * den)
            (mul-lt-mul_of_pos_right (units_mono p (suc p) (le_refl (suc p))) D)
            (mul-lt-mul_of_pos_right (units_mono (suc p) q (gap p q l x y)) D) e (a.nearest (suc p))
      ]
    ]

pub nearest-unique : (num den p q : ℕ) → 0 < den → Nearest num den p → Nearest num den q → p ≡ q
nearest-unique num den p q D a b = elim (either p q) [
  | inl l ↦ absurd (no-two num den p q D a b l)
  | inr g ↦ elim (eq-or-lt_of_le g) [ inl e ↦ sym e | inr l ↦ absurd (no-two num den q p D b a l) ]
]
