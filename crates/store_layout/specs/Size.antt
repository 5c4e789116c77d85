-- The length of a lent store.
use Rattle.std.specs.Prelude.{◌≡◌, List, ℕ, ◌*◌, ◌≤◌, length}
use Rattle.store_layout.specs.Store.{blocks_in}

pub record SizeGood (l : List ℕ) : Type 0 where
  pub some : 1 ≤ blocks_in l
  pub most : blocks_in l ≤ 128
  pub whole : blocks_in l * 512 ≡ length l
