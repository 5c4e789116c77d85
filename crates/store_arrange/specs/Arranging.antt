-- The blocks of a table brought to their places, one by one.
use Rattle.std.specs.Prelude.{◌≡◌, List, ℕ, ◌+◌, ◌*◌, ◌≤◌, ◌<◌, length, get_or}
use Rattle.store_order_table.specs.Table.{block_at}

-- before the turn j, of a store l and a table t: the first j places have their blocks, the others are found by the numbers as they are now
pub record Arranging (l t : List ℕ) (used j : ℕ) (l' o : List ℕ) : Type 0 where
  pub long : length l' ≡ length l
  pub size : length o ≡ length t
  pub done : (k : ℕ) → k < j → block_at l' k ≡ block_at l (get_or t k 0)
  pub rest : (k : ℕ) → j ≤ k → k < used → block_at l' (get_or o k 0) ≡ block_at l (get_or t k 0)
  pub from : (k : ℕ) → j ≤ k → k < used → j ≤ get_or o k 0
  pub inside : (k : ℕ) → j ≤ k → k < used → get_or o k 0 * 512 + 512 ≤ length l
  pub apart : (i k : ℕ) → j ≤ i → i < k → k < used → get_or o i 0 ≡ get_or o k 0 → ⊥
