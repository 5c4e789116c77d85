-- What a loop holds between two turns.
use Rattle.std.specs.Prelude.{◌≡◌, List, ℕ, length, take, replicate}
use mathlib.Core.List.{List}
use Prim.Native.Nat.{ℕ}
use Rattle.std.proofs.Math.ListN.{length, take, replicate}

-- the first i bytes ored into o are zeros
pub record Ored (s : List ℕ) (i o : ℕ) : Type 0 where
  pub zeros : o ≡ 0 → take i s ≡ replicate i 0
  pub none : s ≡ replicate (length s) 0 → o ≡ 0
