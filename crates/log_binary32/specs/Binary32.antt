-- IEEE 754's binary32 over whole numbers. An f32 is its 32-bit number b: the sign's bit (weight 2 ^ 31), the exponent's field (8 bits, weight 2 ^ 23), 23 digits.
-- Sizes are counted in units of 2 ^ -149, the smallest f32 above zero. No float is named here; NearestLaws proves that `pattern` is the nearest, ties to even.
use Prim.Native.Nat.{ℕ, zero, suc, ◌+◌, ◌-◌, ◌*◌, ◌/◌, ◌%◌, ◌^◌, ◌≤◌, min, compare, Ordering}
use Rattle.std.specs.Prelude.{◌≡◌, ◌⊎◌, Bool, true, false, cond, leb, ltb}

abbrev pub negative : ℕ → Bool
negative b = leb 2147483648 b

-- the pattern without its sign, and whether it is below 255 * 2 ^ 23, an infinity's
abbrev pub unsigned : ℕ → ℕ
unsigned b = b % 2147483648

abbrev pub finite : ℕ → Bool
finite b = ltb (unsigned b) 2139095040

-- how many units an exponent's field x with the digits t stands for: a field of 0 has no leading digit, and counts as 1
unfoldable pub field_units : ℕ → ℕ → ℕ
field_units zero t = t
field_units (suc x) t = (8388608 + t) * 2 ^ x

-- the same of a pattern without its sign. Patterns from 255 * 2 ^ 23 on are read as if the exponent had no end.
abbrev pub units_of : ℕ → ℕ
units_of p = field_units (p / 8388608) (p % 8388608)

-- ---- what rounding is: no pattern is nearer to num / den units, and where another is as near, this one's last digit is 0
abbrev pub apart : ℕ → ℕ → ℕ
apart a b = (a - b) + (b - a)

pub record Nearest (num den p : ℕ) : Type 0 where
  pub nearest : (q : ℕ) → apart num (units_of p * den) ≤ apart num (units_of q * den)
  pub tie : (q : ℕ) → apart num (units_of q * den) ≡ apart num (units_of p * den) → (q ≡ p) ⊎ (p % 2 ≡ 0)

-- ---- how it is computed
-- the binary digits of n, which are at most f
unfoldable pub digits_in : ℕ → ℕ → ℕ
digits_in zero n = 0
digits_in (suc f) zero = 0
digits_in (suc f) (suc n) = suc (digits_in f (suc n / 2))

abbrev pub digits : ℕ → ℕ
digits n = digits_in n n

-- the whole number closest to a / b, at a tie the even one: by how twice the remainder compares with b
abbrev pub up_or_down : ℕ → Ordering → ℕ
up_or_down q Ordering.lt = q
up_or_down q Ordering.eq = q + q % 2
up_or_down q Ordering.gt = suc q

abbrev pub closest : ℕ → ℕ → ℕ
closest a b = up_or_down (a / b) (compare (a % b * 2) b)

-- num / den units to the nearest pattern: of the whole part the 24 leading digits are kept and k dropped
unfoldable pub pattern_at : ℕ → ℕ → ℕ → ℕ
pattern_at k num den = k * 8388608 + closest num (den * 2 ^ k)

abbrev pub pattern : ℕ → ℕ → ℕ
pattern num den = pattern_at (digits (num / den) - 24) num den

-- num / den units with the sign s, as an f32: from 255 * 2 ^ 23 on an infinity
unfoldable pub rounded : Bool → ℕ → ℕ → ℕ
rounded s num den = cond s 2147483648 0 + min 2139095040 (pattern num den)

-- ---- the three steps from Fahrenheit to Celsius. An infinity and a NaN stay what they are.
-- 32 is 2 ^ 154 units
unfoldable pub less_thirty_two : Bool → ℕ → ℕ
less_thirty_two true u = rounded true (u + 2 ^ 154) 1
less_thirty_two false u = cond (ltb u (2 ^ 154)) (rounded true (2 ^ 154 - u) 1) (rounded false (u - 2 ^ 154) 1)

unfoldable pub minus32 : ℕ → ℕ
minus32 b = cond (finite b) (less_thirty_two (negative b) (units_of (unsigned b))) b

unfoldable pub times5 : ℕ → ℕ
times5 b = cond (finite b) (rounded (negative b) (units_of (unsigned b) * 5) 1) b

unfoldable pub over9 : ℕ → ℕ
over9 b = cond (finite b) (rounded (negative b) (units_of (unsigned b)) 9) b

-- document 02, CR 1: "subtract 32, times 5, over 9, each step rounded to f32"
abbrev pub to_celsius : ℕ → ℕ
to_celsius b = over9 (times5 (minus32 b))

-- document 02, CR 1: "used blocks divided by all blocks, rounded once"; 1 is 2 ^ 149 units
unfoldable pub portion : ℕ → ℕ → ℕ
portion used all = rounded false (used * 2 ^ 149) all
