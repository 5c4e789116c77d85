-- Refusal 5, MORE, in document 01's words: a proper start of some frame within limits.
use Rattle.std.specs.Prelude.{ℕ, ◌+◌, ◌≤◌, ◌<◌, ◌≡◌, List, ◌++◌, length, get_or}
use Rattle.protocol.specs.Frame.{frame, Fits}

abbrev pub Bytes : List ℕ → Type 0
Bytes s = (i : ℕ) → get_or s i 0 < 256

-- xs is a proper start of some frame with both lengths within limits
pub record Start (xs : List ℕ) : Type 0 where
  pub message : List ℕ
  pub value : List ℕ
  pub after : List ℕ
  pub sizes : Fits message value
  pub proper : 1 ≤ length after
  pub is : xs ++ after ≡ frame message value
