-- A block judged where it stands: the head's bytes, zeros in the gaps, the sum.
use Rattle.std.specs.Prelude.{◌≡◌, List, ℕ, ◌+◌, ◌-◌, ◌*◌, ◌≤◌, ◌<◌, length, take, drop, get_or, replicate, bit_or, fold}

-- the lengths and the algorithm within their limits
pub record Small (b : List ℕ) : Type 0 where
  pub some : 1 ≤ get_or b 1 0
  pub key : get_or b 1 0 ≤ 64
  pub version : get_or b 2 0 ≤ 16
  pub tag : get_or b 3 0 ≤ 32
  pub value : get_or b 4 0 * 256 + get_or b 5 0 ≤ 384
  pub algorithm : get_or b 6 0 ≤ 6

unfoldable pub number_at : List ℕ → ℕ
number_at b = get_or b 508 0 * 16777216 + get_or b 509 0 * 65536 + get_or b 510 0 * 256 + get_or b 511 0

-- what reading the number tells
pub record Held (b : List ℕ) (r : ℕ) : Type 0 where
  pub same : r ≡ number_at b
  pub byte1 : get_or b 509 0 < 256
  pub byte2 : get_or b 510 0 < 256
  pub byte3 : get_or b 511 0 < 256

abbrev pub Zero : List ℕ → Type 0
Zero l = l ≡ replicate (length l) 0

pub record Direct (b : List ℕ) (k v t n : ℕ) : Type 0 where
  pub first : get_or b 0 0 ≡ 1
  pub eighth : get_or b 7 0 ≡ 0
  pub key : Zero (take (72 - (8 + k)) (drop (8 + k) b))
  pub version : Zero (take (88 - (72 + v)) (drop (72 + v) b))
  pub tag : Zero (take (120 - (88 + t)) (drop (88 + t) b))
  pub value : Zero (take (508 - (120 + n)) (drop (120 + n) b))

-- bytes ored into o
abbrev pub ored : ℕ → List ℕ → ℕ
ored o s = fold (λ o b. bit_or o b) o s
