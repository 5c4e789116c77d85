-- Two blocks exchanged, and the numbers of a table that are still to come given anew.
use Rattle.std.specs.Prelude.{cond, ◌≡◌, List, ℕ, ◌+◌, ◌*◌, ◌≤◌, ◌<◌, eqb, length, take, drop, get_or}
use Rattle.store_block.specs.Over.{over}
use Rattle.store_order_table.specs.Table.{block_at}

-- the 512 bytes from a on in place of those from b on, and the other way round
unfoldable pub exchanged : List ℕ → ℕ → ℕ → List ℕ
exchanged l a b = over (over l a (take 512 (drop b l))) b (take 512 (drop a l))

-- j is s now
unfoldable pub renamed : ℕ → ℕ → ℕ → ℕ
renamed j s x = cond (eqb x j) s x

-- the block that stands at a place after j and s were exchanged
unfoldable pub crossed : ℕ → ℕ → ℕ → ℕ
crossed j s k = cond (eqb k j) s (cond (eqb k s) j k)

pub record Renamed (j s : ℕ) (o o' : List ℕ) : Type 0 where
  pub long : length o' ≡ length o
  pub each : (k : ℕ) → k < length o → get_or o' k 0 ≡ renamed j s (get_or o k 0)

pub record Brought (j s : ℕ) (l l' o o' : List ℕ) : Type 0 where
  pub long : length l' ≡ length l
  pub blocks : (k : ℕ) → k * 512 + 512 ≤ length l → block_at l' k ≡ block_at l (crossed j s k)
  pub names : Renamed j s o o'

-- ---- the loop that renames: those before k are given anew
pub record Renaming (j s : ℕ) (o : List ℕ) (k : ℕ) (o' : List ℕ) : Type 0 where
  pub long : length o' ≡ length o
  pub new : (m : ℕ) → m < k → get_or o' m 0 ≡ renamed j s (get_or o m 0)
  pub old : (m : ℕ) → k ≤ m → get_or o' m 0 ≡ get_or o m 0
