-- What the calls do, said of a list of entries in the order of their keys.
use Rattle.std.specs.Prelude.{◌≡◌, Bool, true, cond, List, [], ◌∷◌, ℕ, ◌+◌, ◌≤◌, ltb, length, take, drop, get_or, Result, Ok, Err, false}
use Rattle.std.proofs.Math.Option.{Option}
use Rattle.base_definitions.specs.Lists.{only, first, last}
use Rattle.std.specs.declared.cmp.Ordering.{Ordering}
use Rattle.std.specs.declared.cmp.Ordering.TheVariants.{Less, Equal, Greater}
use Rattle.store_block.specs.Order.{cmp}
use Rattle.store_block.specs.Entry.{Entry, entry, no_entry}
use Rattle.std.specs.Ordering.{is_lt}
use Rattle.store_block.specs.Block.{fit_test}
use Rattle.store_layout.specs.declared.PutError.{PutError}
use Rattle.store_layout.specs.declared.PutError.TheVariants.{Full, Unfit}
use Rattle.store_layout.specs.declared.EntryPart.{EntryPart}
use Rattle.store_layout.specs.declared.Parts.{Parts}
use Rattle.store_layout.specs.Store.{entries_of, bytes_of, blocks_in, Good}

unfoldable pub by_order {ℓ} : {X : Type ℓ} → Ordering → X → X → X → X
by_order Less a b c = a
by_order Equal a b c = b
by_order Greater a b c = c

-- where a key stands, or would stand, when the first entry has place i
unfoldable pub find_from : ℕ → List ℕ → List Entry → Result ℕ ℕ
find_from i k [] = Err i
find_from i k (e ∷ es) = by_order (cmp k e.key) (Err i) (Ok i) (find_from (i + 1) k es)

unfoldable pub find_in : List ℕ → List Entry → Result ℕ ℕ
find_in k es = find_from 0 k es

-- the place that a search gives, and the one past what it found
unfoldable pub place_of : Result ℕ ℕ → ℕ
place_of (Ok i) = i
place_of (Err i) = i

unfoldable pub past_of : Result ℕ ℕ → ℕ
past_of (Ok i) = i + 1
past_of (Err i) = i

-- what find promises: a place inside the store, for a good one the right place
pub record Sought (l k : List ℕ) (r : Result ℕ ℕ) : Type 0 where
  pub within : past_of r ≤ blocks_in l
  pub same : Good l → r ≡ find_in k (entries_of l)

-- how many keys are strictly below a bound: the first place at or above it
unfoldable pub below : List ℕ → List Entry → ℕ
below k [] = 0
below k (e ∷ es) = by_order (cmp e.key k) (1 + below k es) (below k es) (below k es)

-- how many keys are below a bound or equal to it: the first place strictly above it
unfoldable pub up_to : List ℕ → List Entry → ℕ
up_to k [] = 0
up_to k (e ∷ es) = by_order (cmp e.key k) (1 + up_to k es) (1 + up_to k es) (up_to k es)

-- "nearest stored key strictly above": of entries in the order of their keys, the first whose key is above k
unfoldable pub next_of : List ℕ → List Entry → Option Entry
next_of k es = first (only (λ e. is_lt (cmp k e.key)) es)

-- "or below": the last whose key is below k
unfoldable pub previous_of : List ℕ → List Entry → Option Entry
previous_of k es = last (only (λ e. is_lt (cmp e.key k)) es)

-- a part's bytes in the store, and the entry that parts show
abbrev pub part_of : List ℕ → EntryPart → List ℕ
part_of l p = take p.len (drop p.start l)

abbrev pub entry_of : List ℕ → Parts → Entry
entry_of l p = entry (part_of l p.key) (part_of l p.version) (part_of l p.tag) (part_of l p.value) p.algorithm

abbrev pub no_part : EntryPart
no_part = record { start = 0; len = 0 }

abbrev pub no_parts : Parts
no_parts = record { key = no_part; version = no_part; tag = no_part; value = no_part; algorithm = 0 }

-- what entry_at promises: parts inside the store, for a good one those of the entry at the place
pub record EntryAt (l : List ℕ) (i : ℕ) (p : Parts) : Type 0 where
  pub key_inside : p.key.start + p.key.len ≤ length l
  pub version_inside : p.version.start + p.version.len ≤ length l
  pub tag_inside : p.tag.start + p.tag.len ≤ length l
  pub value_inside : p.value.start + p.value.len ≤ length l
  pub same : Good l → entry_of l p ≡ get_or (entries_of l) i no_entry

-- the entries with e put in: in place of the one under its key, or where its key goes
unfoldable pub put_entry : Entry → List Entry → List Entry
put_entry e [] = e ∷ []
put_entry e (x ∷ xs) = by_order (cmp e.key x.key) (e ∷ x ∷ xs) (e ∷ xs) (x ∷ put_entry e xs)

-- the entries without the one under a key
unfoldable pub remove_entry : List ℕ → List Entry → List Entry
remove_entry k [] = []
remove_entry k (x ∷ xs) = by_order (cmp k x.key) (x ∷ xs) xs (x ∷ remove_entry k xs)

-- there is room where the key is known, and where a block is blank
unfoldable pub roomy : Result ℕ ℕ → ℕ → ℕ → Bool
roomy (Ok i) used n = true
roomy (Err i) used n = ltb used n

unfoldable pub has_room : List ℕ → Entry → Bool
has_room l e = roomy (find_in e.key (entries_of l)) (length (entries_of l)) (blocks_in l)

abbrev pub PutAnswer : Type 0
PutAnswer = Result (Unit {0}) PutError

-- put answers Unfit for an entry that does not fit, Full for "a new key .. with no blank block"
unfoldable pub put_answer : List ℕ → Entry → PutAnswer
put_answer l e = cond (fit_test e) (cond (has_room l e) (Ok tt) (Err Full)) (Err Unfit)

unfoldable pub when_stored {ℓ} : {X : Type ℓ} → PutAnswer → X → X → X
when_stored (Ok done) a b = a
when_stored (Err why) a b = b

-- the store after put: as it was unless the entry was stored
unfoldable pub put_store : List ℕ → Entry → List ℕ
put_store l e = when_stored (put_answer l e) (bytes_of (blocks_in l) (put_entry e (entries_of l))) l

-- delete answers whether the key was there
unfoldable pub delete_of : Result ℕ ℕ → Bool
delete_of (Ok i) = true
delete_of (Err i) = false

unfoldable pub delete_answer : List ℕ → List ℕ → Bool
delete_answer l k = delete_of (find_in k (entries_of l))

unfoldable pub delete_store : List ℕ → List ℕ → List ℕ
delete_store l k = bytes_of (blocks_in l) (remove_entry k (entries_of l))
