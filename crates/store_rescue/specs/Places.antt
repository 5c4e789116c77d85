-- The report by old place: what each byte says of its block and of the blocks before it.
use Rattle.std.specs.Prelude.{◌≡◌, List, [], ℕ, ◌<◌, get_or}
use Rattle.store_block.specs.Entry.{Entry}
use Rattle.store_block.specs.Block.{decode}
use Rattle.store_order_table.specs.Table.{block_at}
use Rattle.store_rescue.specs.Rescue.{blocks_from, kept_from, report_of}

-- the entries kept of the first i blocks
unfoldable pub kept_before : List ℕ → ℕ → List Entry
kept_before l i = kept_from [] (blocks_from i l)

-- a block before place i that is kept, and its entry
pub record KeptAt (l : List ℕ) (i : ℕ) (e : Entry) : Type 0 where
  pub place : ℕ
  pub before : place < i
  pub byte : get_or (report_of l) place 0 ≡ 1
  pub same : decode (block_at l place) ≡ e

-- "4 key of an earlier kept block": such a block
pub record Twin (l : List ℕ) (i : ℕ) : Type 0 where
  pub place : ℕ
  pub before : place < i
  pub byte : get_or (report_of l) place 0 ≡ 1
  pub same : (decode (block_at l place)).key ≡ (decode (block_at l i)).key
