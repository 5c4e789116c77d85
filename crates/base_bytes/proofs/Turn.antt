-- What a loop holds between two turns.
use Rattle.std.specs.Prelude.{◌≡◌, List, ℕ, ◌<◌, get_or}

-- o is 0 exactly where the first i bytes of two lists are the same
pub record Agree (xs ys : List ℕ) (i o : ℕ) : Type 0 where
  pub yes : o ≡ 0 → (k : ℕ) → k < i → get_or xs k 0 ≡ get_or ys k 0
  pub no : ((k : ℕ) → k < i → get_or xs k 0 ≡ get_or ys k 0) → o ≡ 0
