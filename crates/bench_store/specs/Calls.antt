-- What the calls for the measurements say and leave: of a bad store a number of its own, and the store as it was.
use Rattle.std.specs.Prelude.{Bool, true, false, cond, List, ℕ, ◌-◌, ◌^◌}
use Rattle.store_block.specs.Entry.{Entry}
use Rattle.store_layout.specs.Entries.{PutAnswer}
use Rattle.std.specs.Prelude.{Ok, Err}
use Rattle.store_layout.specs.declared.PutError.TheVariants.{Full, Unfit}
use Rattle.store_layout.specs.Store.{entries_of, store_good}
use Rattle.store_layout.specs.Entries.{find_in, place_of, put_answer, put_store, delete_answer, delete_store}

-- the place of a key, or the one where it would go
abbrev pub find_of : List ℕ → List ℕ → ℕ
find_of l k = cond (store_good l) (place_of (find_in k (entries_of l))) (2 ^ 64 - 1)

-- a number, and the store afterwards
pub record Left : Type 0 where
  pub number : ℕ
  pub store : List ℕ

abbrev pub left : ℕ → List ℕ → Left
left n l = record { number = n; store = l }

abbrev pub put_number : PutAnswer → ℕ
put_number (Ok tt) = 0
put_number (Err Full) = 1
put_number (Err Unfit) = 2

abbrev pub delete_number : Bool → ℕ
delete_number true = 0
delete_number false = 1

abbrev pub put_of : List ℕ → Entry → Left
put_of l e = cond (store_good l) (left (put_number (put_answer l e)) (put_store l e)) (left 3 l)

abbrev pub delete_of : List ℕ → List ℕ → Left
delete_of l k = cond (store_good l) (left (delete_number (delete_answer l k)) (delete_store l k)) (left 3 l)
