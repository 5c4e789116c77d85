-- A search by halving: what a comparison with the key at a place says of where a key stands.
use Rattle.std.specs.Prelude.{ℕ, ◌≤◌, Result}
use Rattle.store_layout.specs.Entries.{place_of, past_of}

-- what a search finds lies from lo up to hi
pub record Between (f : Result ℕ ℕ) (lo hi : ℕ) : Type 0 where
  pub low : lo ≤ place_of f
  pub high : past_of f ≤ hi
