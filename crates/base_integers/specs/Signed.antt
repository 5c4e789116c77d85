-- Document 01, "Frame and fields": "Integers are 64-bit two's complement".
use Rattle.std.specs.Prelude.{ℕ, suc, ◌-◌, ◌^◌, ℤ, pos, negsuc, ltb}
use Rattle.std.specs.Int.{w64}
use mir.Val.{sel, of_z}

-- the number that a 64-bit word stands for: itself below 2^63, else the word less 2^64
abbrev pub signed_of : ℕ → ℤ
signed_of v = sel (ltb v (2 ^ 63)) (pos v) (negsuc (2 ^ 64 - suc v))

-- the word that stands for a number: of `pos n` it is n, of `negsuc n`, which is -1 - n, it is 2^64 - 1 - n
abbrev pub word_of : ℤ → ℕ
word_of x = of_z w64 x
