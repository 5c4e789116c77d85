-- The kept blocks of those looked at so far, by an order table, and what becomes of the next one.
use Rattle.std.specs.Prelude.{◌≡◌, List, [], ◌∷◌, ℕ, ◌+◌, ◌*◌, ◌≤◌, ◌<◌, length, take}
use Rattle.store_block.specs.Block.{BlockGood}
use Rattle.store_layout.specs.Store.{Sorted}
use Rattle.store_order_table.specs.Table.{block_at, entries_at}
use Rattle.store_rescue.specs.Rescue.{report_byte, kept_with}

-- what holds of every number of a table
abbrev pub Each : (ℕ → Type 0) → List ℕ → Type 0
Each P [] = Unit {0}
Each P (k ∷ ks) = P k × Each P ks

-- a block that is kept: one of the first i, and sound
pub record Kept (l : List ℕ) (i k : ℕ) : Type 0 where
  pub low : k < i
  pub good : BlockGood (block_at l k)

-- the first numbers of a table name the blocks that are kept of the first i, in the order of their keys
pub record Listed (l : List ℕ) (i kept : ℕ) (o : List ℕ) : Type 0 where
  pub room : length o ≡ 128
  pub few : kept ≤ i
  pub each : Each (Kept l i) (take kept o)
  pub sorted : Sorted (entries_at l (take kept o))

-- the next block lies in the store
pub record Next (l : List ℕ) (i : ℕ) : Type 0 where
  pub small : i < 128
  pub inside : i * 512 + 512 ≤ length l

-- what became of it
pub record Judged (l : List ℕ) (i kept : ℕ) (o : List ℕ) (byte kept' : ℕ) (o' : List ℕ) : Type 0 where
  pub told : byte ≡ report_byte (entries_at l (take kept o)) (block_at l i)
  pub entries : entries_at l (take kept' o') ≡ kept_with (entries_at l (take kept o)) (block_at l i)
  pub listed : Listed l (i + 1) kept' o'
