-- What the check of a store decides, block by block.
use Rattle.std.specs.Prelude.{◌≡◌, List, ℕ, ◌+◌, ◌-◌, ◌≤◌, length, take, drop}
use Rattle.store_block.specs.Order.{Below}
use Rattle.store_block.specs.Entry.{Entry}
use Rattle.store_block.specs.Block.{decode, BlockGood}
use Rattle.store_layout.specs.Store.{bytes_of, AllFit, Above, Sorted}

-- the blocks from a place on, when the key before them is k
pub record GoodFrom (k l : List ℕ) (n : ℕ) : Type 0 where
  pub entries : List Entry
  pub fit : AllFit entries
  pub sorted : Sorted entries
  pub above : Above k entries
  pub room : length entries ≤ n
  pub same : l ≡ bytes_of n entries

pub record Step (k l : List ℕ) (n : ℕ) : Type 0 where
  pub block_good : BlockGood (take 512 l)
  pub below : Below k (decode l).key
  pub rest : GoodFrom (decode l).key (drop 512 l) n

pub record Turn (k l : List ℕ) (n i a w : ℕ) : Type 0 where
  pub block_good : BlockGood (take (a + 512 - a) (drop a l))
  pub below : Below k (take (a + 8 + w - (a + 8)) (drop (a + 8) l))
  pub rest : GoodFrom (take (a + 8 + w - (a + 8)) (drop (a + 8) l)) (drop (a + 512) l) (n - (i + 1))
