-- A copy that is under way.
use Rattle.std.specs.Prelude.{ℕ, ◌+◌, ◌≤◌, ◌≡◌, List, length}
use Rattle.std.proofs.Math.Seq.{paste}

-- a copy of src to p, forwards, after i bytes
pub record Copying (at : ℕ) (src before : List ℕ) (p i : ℕ) (now : List ℕ) : Type 0 where
  pub from : p + length src ≡ at
  pub fits : at ≤ length before
  pub within : i ≤ length src
  pub long : length now ≡ length before
  pub same : now ≡ paste before p src i
