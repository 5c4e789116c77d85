-- Blocks of a store put in the order of a table.
use Rattle.std.specs.Prelude.{◌≡◌, List, [], ◌∷◌, ◌++◌, ℕ, ◌-◌, ◌*◌, ◌<◌, length, get_or, replicate}
use Rattle.store_order_table.specs.Table.{block_at}

-- the blocks of a table's numbers, one after the other
unfoldable pub blocks_at : List ℕ → List ℕ → List ℕ
blocks_at l [] = []
blocks_at l (k ∷ ks) = block_at l k ++ blocks_at l ks

-- these first, and blank ones behind them
unfoldable pub arranged : List ℕ → List ℕ → List ℕ
arranged l ks = blocks_at l ks ++ replicate (length l - length ks * 512) 0

-- no number stands in a table twice
pub record Distinct (ks : List ℕ) : Type 0 where
  pub each : (i m : ℕ) → i < m → m < length ks → get_or ks i 0 ≡ get_or ks m 0 → ⊥
