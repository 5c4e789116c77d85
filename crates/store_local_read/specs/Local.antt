-- Local read, document 01, "What the box does": "the value under a key comes back as a part of the lent store, not a copy; empty if there is
-- none. A companion call says found, not found (also for a key that isn't 1 to 64 bytes), or, judged first, refusal 2, where the part is empty too."
use Rattle.std.specs.Prelude.{cond, List, ℕ, ◌+◌, ◌*◌, length, take, drop, get_or, Result, Ok, Err, Option, Some, None}
use Rattle.base_definitions.specs.Refusals.{STORE_BAD}
use Rattle.store_block.specs.Entry.{Entry, no_entry}
use Rattle.store_block.specs.Offsets.{BLOCK_BYTES, VALUE}
use Rattle.store_layout.specs.Store.{entries_of, store_good}
use Rattle.store_layout.specs.Entries.{find_in}
use Rattle.store_layout.specs.declared.EntryPart.{EntryPart}
use Rattle.store_local_read.specs.declared.StoreBad.{StoreBad}

-- an answer's number, and the part of the store that it names, by its place and its length
pub record Answer : Type 0 where
  pub number : ℕ
  pub start : ℕ
  pub len : ℕ

abbrev pub found : ℕ → ℕ → Answer
found s n = record { number = 0; start = s; len = n }

abbrev pub not_found : Answer
not_found = record { number = 1; start = 0; len = 0 }

abbrev pub store_bad : Answer
store_bad = record { number = STORE_BAD; start = 0; len = 0 }

-- what the code answers
abbrev pub Local : Type 0
Local = Result (Option EntryPart) StoreBad

-- what each answer of the code says
abbrev pub answer_of : Local → Answer
answer_of (Ok (Some p)) = found p.start p.len
answer_of (Ok None) = not_found
answer_of (Err bad) = store_bad

-- what a search among entries finds: the value's own part, in the block that stands at the entry's place
unfoldable pub under : Result ℕ ℕ → List Entry → Answer
under (Ok i) es = found (i * BLOCK_BYTES + VALUE) (length (get_or es i no_entry).value)
under (Err i) es = not_found

-- "found, not found .. or, judged first, refusal 2"
unfoldable pub local_of : List ℕ → List ℕ → Answer
local_of l k = cond (store_good l) (under (find_in k (entries_of l)) (entries_of l)) store_bad

-- the bytes of the part
abbrev pub part_of : List ℕ → Answer → List ℕ
part_of l a = take a.len (drop a.start l)
