-- The store, document 01, "Blocks": "Used blocks come first, every used block's key strictly below the next .. Blank blocks follow."
use Rattle.std.specs.Prelude.{◌≡◌, Bool, true, false, ◌&&◌, List, [], ◌∷◌, ◌++◌, ℕ, zero, suc, ◌-◌, ◌*◌, ◌/◌, ◌≤◌, eqb, leb, length, take, drop, get_or, replicate}
use Rattle.store_block.specs.Order.{cmp, Below}
use Rattle.store_block.specs.Entry.{Entry, Fit}
use Rattle.std.specs.Ordering.{is_eq, is_lt}
use Rattle.store_block.specs.Block.{block, decode, block_test}
use Rattle.store_block.specs.Offsets.{BLOCK_BYTES}

-- "blocks of 512 bytes": how many some bytes have
abbrev pub blocks_in : List ℕ → ℕ
blocks_in l = length l / BLOCK_BYTES

-- "1 to 128 blocks of 512"
unfoldable pub size_good : List ℕ → Bool
size_good l = leb 1 (blocks_in l) && (leb (blocks_in l) 128 && eqb (blocks_in l * BLOCK_BYTES) (length l))

unfoldable pub blocks : List Entry → List ℕ
blocks [] = []
blocks (e ∷ es) = block e ++ blocks es

-- the bytes of entries in n blocks: their blocks, and then blank ones ("A blank block is 512 zero bytes")
unfoldable pub bytes_of : ℕ → List Entry → List ℕ
bytes_of n es = blocks es ++ replicate ((n - length es) * BLOCK_BYTES) 0

-- the entries that n blocks hold: those of the blocks before the first whose byte 0 is zero
unfoldable pub entries_from : ℕ → List ℕ → List Entry
entries_from zero l = []
entries_from (suc n) l = elim (eqb (get_or l 0 0) 0) [ true ↦ [] | false ↦ decode l ∷ entries_from n (drop BLOCK_BYTES l) ]

-- the entries of any bytes
unfoldable pub entries_of : List ℕ → List Entry
entries_of l = entries_from (blocks_in l) l

pub data AllFit : List Entry → Type 0 where
  none : AllFit []
  more : {e : Entry} {es : List Entry} → Fit e → AllFit es → AllFit (e ∷ es)

-- k is strictly below the first key
abbrev pub Above : List ℕ → List Entry → Type 0
Above k [] = Unit {0}
Above k (e ∷ es) = Below k e.key

-- "every used block's key strictly below the next"
abbrev pub Sorted : List Entry → Type 0
Sorted [] = Unit {0}
Sorted (e ∷ es) = Above e.key es × Sorted es

-- "1 to 128 blocks of 512", and no block rule broken: the bytes are those of their entries, which fit and ascend
pub record Good (l : List ℕ) : Type 0 where
  pub some : 1 ≤ blocks_in l
  pub most : blocks_in l ≤ 128
  pub fit : AllFit (entries_of l)
  pub sorted : Sorted (entries_of l)
  pub same : l ≡ bytes_of (blocks_in l) (entries_of l)

-- the same as a computed test: n blocks that stand after the key k; a blank one has only zeros after it
unfoldable pub good_from : ℕ → List ℕ → List ℕ → Bool
good_from zero k l = eqb (length l) 0
good_from (suc n) k l =
    elim (eqb (get_or l 0 0) 0) [
      | true ↦ (eqb (length l) (suc n * 512) && is_eq (cmp l (replicate (length l) 0)))
      | false ↦ (block_test (take 512 l) && (is_lt (cmp k (decode l).key) && good_from n (decode l).key (drop BLOCK_BYTES l)))
    ]

-- false is refusal 2, STORE_BAD
unfoldable pub store_good : List ℕ → Bool
store_good l = leb 1 (blocks_in l) && (leb (blocks_in l) 128 && good_from (blocks_in l) [] l)
