-- What a writer does to a lent buffer.
use Rattle.std.specs.Prelude.{ℕ, ◌+◌, ◌≤◌, ◌≡◌, List, ◌++◌, length, take, drop, Some, None}
use Rattle.std.specs.Prelude as code
use Rattle.std.proofs.Math.Option.{Option, none, some}

-- writing in front: the bytes bs are put right before the place `at`, and start at r; every other byte is as it was
pub record Pushed (r at : ℕ) (bs before after : List ℕ) : Type 0 where
  pub from : r + length bs ≡ at
  pub fits : at ≤ length before
  pub long : length after ≡ length before
  pub same : after ≡ take r before ++ (bs ++ drop at before)

-- the r bytes bs at the start, and every other byte as it was
pub record Starts (r : ℕ) (bs before after : List ℕ) : Type 0 where
  pub next : r ≡ length bs
  pub same : after ≡ bs ++ drop r before

-- the number that the code's Option means, if any
abbrev pub maybe : code.Option ℕ → Option ℕ
maybe None = none
maybe (Some v) = some v
