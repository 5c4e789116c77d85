-- A Bool that decides a claim.
use Rattle.std.specs.Prelude.{◌≡◌, Bool, true, false}

pub record Decides (r : Bool) (P : Type 0) : Type 0 where
  pub yes : r ≡ true → P
  pub no : r ≡ false → P → ⊥

-- a Bool that decides a claim where another holds
pub record DecidesGiven (S : Type 0) (r : Bool) (P : Type 0) : Type 0 where
  pub yes : r ≡ true → S → P
  pub no : r ≡ false → P → ⊥
