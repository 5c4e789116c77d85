-- The bits of a number.
use Rattle.std.specs.Prelude.{Bool, cond, ℕ, ◌+◌, ◌/◌, ◌%◌, ◌^◌, eqb}

unfoldable pub bit : ℕ → ℕ → Bool
bit m p = eqb (m / 2 ^ p % 2) 1

-- with bit p set
unfoldable pub with_bit : ℕ → ℕ → ℕ
with_bit m p = cond (bit m p) m (m + 2 ^ p)
