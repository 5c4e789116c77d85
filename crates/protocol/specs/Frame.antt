-- The frame of document 01: byte 46 hex, two lengths of four bytes, the message, the value.
use Rattle.std.specs.Prelude.{ℕ, ◌+◌, ◌*◌, ◌≤◌, List, [], ◌∷◌, ◌++◌, Bool, false, cond, length, take, drop, get_or, leb, eqb}
use Rattle.base_definitions.specs.BigEndian.{be32}

unfoldable pub frame : List ℕ → List ℕ → List ℕ
frame m v = 0x46 ∷ (be32 (length m) ++ (be32 (length v) ++ (m ++ v)))

abbrev pub num4 : List ℕ → ℕ → ℕ
num4 s i = get_or s i 0 * 16777216 + get_or s (i + 1) 0 * 65536 + get_or s (i + 2) 0 * 256 + get_or s (i + 3) 0

pub data Framing : Type 0 where
  more : Framing
  closes : Framing
  -- the message, the value, what follows
  whole : List ℕ → List ℕ → List ℕ → Framing

-- the first byte and both lengths are right; bytes that have not come yet count as 0, the lowest that they can be
abbrev pub fits : List ℕ → Bool
fits s = cond (eqb (get_or s 0 0) 0x46) (cond (leb (num4 s 1) 8192) (leb (num4 s 5) 1024) false) false

abbrev pub cut_at : List ℕ → ℕ → ℕ → Framing
cut_at s ml vl = cond (leb (9 + ml + vl) (length s)) (whole (take ml (drop 9 s)) (take vl (drop (9 + ml) s)) (drop (9 + ml + vl) s)) more

unfoldable pub frame_of : List ℕ → Framing
frame_of [] = more
frame_of (b ∷ r) = cond (fits (b ∷ r)) (cut_at (b ∷ r) (num4 (b ∷ r) 1) (num4 (b ∷ r) 5)) closes

-- within the size limits
pub record Fits (m v : List ℕ) : Type 0 where
  pub message : length m ≤ 8192
  pub value : length v ≤ 1024
