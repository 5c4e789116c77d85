-- Keys of places of the store, in the order of the places.
use Rattle.std.specs.Prelude.{Bool, List, ◌++◌, ℕ, ◌-◌, take, get_or}
use Rattle.base_definitions.specs.Lists.{map_l, only}
use Rattle.store_block.specs.Entry.{Entry, no_entry}
use Rattle.operation_visible.specs.declared.Run.{Run}
use Rattle.operation_visible.specs.Runs.{entries_from}

abbrev pub key_of : Entry → List ℕ
key_of e = e.key

-- the key at a place
abbrev pub key_at : List Entry → ℕ → List ℕ
key_at es i = (get_or es i no_entry).key

abbrev pub keys_at : List Entry → List ℕ → List (List ℕ)
keys_at es places = map_l (key_at es) places

-- what is listed already, n places of at most `most`, and what may follow from a run by a test
abbrev pub listed : (Entry → Bool) → List Entry → Bool → ℕ → List ℕ → ℕ → ℕ → ℕ → List (List ℕ)
listed f es reverse most places n i count = keys_at es (take n places) ++ take (most - n) (map_l key_of (only f (entries_from reverse i count es)))

-- the same, what may follow being what is left of a run
abbrev pub listed_of : (Entry → Bool) → List Entry → ℕ → List ℕ → ℕ → Run → List (List ℕ)
listed_of f es most places n r = listed f es r.reverse most places n r.first r.count
