-- The sum of a block, as the code makes it: eight rows of 64 bytes, column by column.
use Rattle.std.specs.Prelude.{◌≡◌, List, ℕ, ◌+◌, ◌*◌, ◌≤◌, ◌<◌, length, take, drop, get_or}
use Rattle.store_block.specs.Block.{sum_from}

unfoldable pub row : List ℕ → ℕ → ℕ → ℕ
row b p n = sum_from p (take n (drop p b))

unfoldable pub column_sum : List ℕ → ℕ → ℕ
column_sum b k = get_or b (k + 448) 0 + get_or b (k + 384) 0 + get_or b (k + 320) 0 + get_or b (k + 256) 0 + get_or b (k + 192) 0 + get_or b (k + 128) 0 + get_or b (k + 64) 0 + get_or b k 0

unfoldable pub column_rows : List ℕ → ℕ → ℕ
column_rows b k = get_or b (k + 448) 0 * 7 + get_or b (k + 384) 0 * 6 + get_or b (k + 320) 0 * 5 + get_or b (k + 256) 0 * 4 + get_or b (k + 192) 0 * 3 + get_or b (k + 128) 0 * 2 + get_or b (k + 64) 0

-- the first k bytes of each row
unfoldable pub eight : List ℕ → ℕ → ℕ
eight b k = row b 448 k + row b 384 k + row b 320 k + row b 256 k + row b 192 k + row b 128 k + row b 64 k + row b 0 k

-- bytes 508 to 511, "byte times (place + 1)"
unfoldable pub last_four : List ℕ → ℕ
last_four b = get_or b 508 0 * 509 + get_or b 509 0 * 510 + (get_or b 510 0 * 511) + (get_or b 511 0 * 512)

-- what is found of column k
pub record Column (b : List ℕ) (k all rows : ℕ) : Type 0 where
  pub all_is : all ≡ column_sum b k
  pub rows_is : rows ≡ column_rows b k
  pub all_most : all ≤ 2040
  pub rows_most : rows ≤ 7140

-- the first n columns: their sums, and from 64 on those by rows
pub record Columns (b : List ℕ) (n : ℕ) (c : List ℕ) : Type 0 where
  pub long : length c ≡ 128
  pub each : (k : ℕ) → k < n → Column b k (get_or c k 0) (get_or c (k + 64) 0)
