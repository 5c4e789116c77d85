-- The relation that runs of writes compose by.
use Rattle.std.specs.Prelude.{◌≡◌, List, ◌++◌, ℕ, ◌+◌, ◌≤◌, length, take, drop}

-- l with bs in place of what stood from index a on
unfoldable pub put : List ℕ → ℕ → List ℕ → List ℕ
put l a bs = take a l ++ (bs ++ drop (a + length bs) l)

-- from a to b the bytes bs were written into `before`, which gave `after`; all else stands
pub record Wrote (a b : ℕ) (bs before after : List ℕ) : Type 0 where
  pub next : b ≡ a + length bs
  pub room : b ≤ length before
  pub long : length after ≡ length before
  pub same : after ≡ put before a bs
