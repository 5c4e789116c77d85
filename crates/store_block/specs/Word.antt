-- Bytes read as one big-endian number stand to each other as that number does.
use Rattle.std.specs.Prelude.{List, ℕ, zero, suc, ◌+◌, ◌*◌, ◌^◌, ◌<◌, get_or}

-- k bytes from i on
unfoldable pub word_at : ℕ → List ℕ → ℕ → ℕ
word_at zero l i = 0
word_at (suc k) l i = get_or l i 0 * 256 ^ k + word_at k l (i + 1)

pub record Bytes (l : List ℕ) : Type 0 where
  pub fits : (j : ℕ) → get_or l j 0 < 256
