-- The block of an entry, document 01, "Blocks": the table of bytes, and the check. Numbers are big-endian.
use Rattle.std.specs.Prelude.{◌≡◌, Bool, ◌&&◌, List, [], ◌∷◌, ◌++◌, ℕ, ◌+◌, ◌*◌, ◌/◌, ◌%◌, leb, length, take, drop, get_or, replicate}
use Rattle.std.specs.Ordering.{is_eq}
use Rattle.store_block.specs.Order.{cmp}
use Rattle.base_definitions.specs.Lists.{fill}
use Rattle.base_definitions.specs.BigEndian.{be32}
use Rattle.store_block.specs.Entry.{Entry, Fit}
use Rattle.store_block.specs.Offsets.{KEY_LENGTH, VERSION_LENGTH, TAG_LENGTH, VALUE_LENGTH, ALGORITHM, KEY, VERSION, TAG, VALUE, SUM}

-- "sum .. of byte times (place + 1)", the first byte standing at place p
unfoldable pub sum_from : ℕ → List ℕ → ℕ
sum_from p [] = 0
sum_from p (b ∷ bs) = b * (p + 1) + sum_from (p + 1) bs

-- bytes 0 to 7: "1 if used", the three lengths, the value's length, the algorithm, zero
unfoldable pub head : Entry → List ℕ
head e = 1 ∷ length e.key ∷ length e.version ∷ length e.tag ∷ (length e.value / 256) ∷ (length e.value % 256) ∷ e.algorithm ∷ 0 ∷ []

-- bytes 0 to 507: "8-71, 72-87, 88-119, 120-503 .. key, version, tag, value", and "504-507 .. zero"
unfoldable pub body : Entry → List ℕ
body e = head e ++ (fill 64 e.key ++ (fill 16 e.version ++ (fill 32 e.tag ++ (fill 384 e.value ++ replicate 4 0))))

-- "508-511 .. sum over bytes 0 to 507 of byte times (place + 1)"
unfoldable pub block : Entry → List ℕ
block e = body e ++ be32 (sum_from 0 (body e))

-- the same of any block's bytes: "508-511 .. sum over bytes 0 to 507 of byte times (place + 1)"
abbrev pub SumRight : List ℕ → Type 0
SumRight b = drop SUM b ≡ be32 (sum_from 0 (take SUM b))

-- what the bytes of a block say, whatever follows them
unfoldable pub decode : List ℕ → Entry
decode b =
    record {
      key = take (get_or b KEY_LENGTH 0) (drop KEY b);
      version = take (get_or b VERSION_LENGTH 0) (drop VERSION b);
      tag = take (get_or b TAG_LENGTH 0) (drop TAG b);
      value = take (get_or b VALUE_LENGTH 0 * 256 + get_or b (VALUE_LENGTH + 1) 0) (drop VALUE b);
      algorithm = get_or b ALGORITHM 0;
    }

-- the rules of a used block: its bytes are the block of an entry that fits, the one that they say
pub record BlockGood (b : List ℕ) : Type 0 where
  pub fit : Fit (decode b)
  pub same : block (decode b) ≡ b

unfoldable pub fit_test : Entry → Bool
fit_test e =
    leb 1 (length e.key) && (leb (length e.key) 64 && (leb (length e.version) 16 &&
    (leb (length e.tag) 32 && (leb (length e.value) 384 && leb e.algorithm 6))))

unfoldable pub block_test : List ℕ → Bool
block_test b = fit_test (decode b) && is_eq (cmp (block (decode b)) b)

unfoldable pub sum_test : List ℕ → Bool
sum_test b = is_eq (cmp (drop SUM b) (be32 (sum_from 0 (take SUM b))))
