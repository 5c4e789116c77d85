-- An order table: numbers of blocks of a store, the first block being number 0.
use Rattle.std.specs.Prelude.{List, [], ◌∷◌, ℕ, ◌*◌, ◌<◌, length, take, drop, get_or}
use Rattle.store_block.specs.Entry.{Entry}
use Rattle.store_block.specs.Block.{decode}
use Rattle.store_layout.specs.Store.{blocks_in}

-- the block of a number
unfoldable pub block_at : List ℕ → ℕ → List ℕ
block_at l k = take 512 (drop (k * 512) l)

-- what the blocks of a table's numbers say
unfoldable pub entries_at : List ℕ → List ℕ → List Entry
entries_at l [] = []
entries_at l (k ∷ ks) = decode (drop (k * 512) l) ∷ entries_at l ks

-- every number of a table names a block
pub record Names (l ks : List ℕ) : Type 0 where
  pub each : (m : ℕ) → m < length ks → get_or ks m 0 < blocks_in l
