-- The differences of two lists of bytes.
use Rattle.std.specs.Prelude.{List, ℕ, bit_or, bit_xor, fold, zip}

-- those of the bytes place by place, ored into d
abbrev pub differences : ℕ → List ℕ → List ℕ → ℕ
differences d xs ys = fold (λ d p. bit_or d (bit_xor p.0 p.1)) d (zip xs ys)
