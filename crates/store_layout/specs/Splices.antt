-- Entries with one put in, replaced or removed at a place.
use Rattle.std.specs.Prelude.{List, ◌∷◌, ◌++◌, ℕ, suc, take, drop}
use Rattle.store_block.specs.Entry.{Entry}

-- the entries with e at place i, with e in place of the one there, and without the one there
abbrev pub insert_at : ℕ → Entry → List Entry → List Entry
insert_at i e es = take i es ++ (e ∷ drop i es)

abbrev pub replace_at : ℕ → Entry → List Entry → List Entry
replace_at i e es = take i es ++ (e ∷ drop (suc i) es)

abbrev pub remove_at : ℕ → List Entry → List Entry
remove_at i es = take i es ++ drop (suc i) es
