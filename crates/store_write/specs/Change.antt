-- What put and delete do to the bytes of a good store.
use Rattle.std.specs.Prelude.{cond, List, ℕ, ltb, length}
use Rattle.store_block.specs.Entry.{Entry}
use Rattle.store_layout.specs.Entries.{PutAnswer}
use Rattle.std.specs.Prelude.{Ok, Err}
use Rattle.store_layout.specs.declared.PutError.TheVariants.{Full}
use Rattle.store_layout.specs.Store.{blocks_in, bytes_of, entries_of}
use Rattle.store_layout.specs.Splices.{insert_at}

-- a block put in at a place, if one is blank
unfoldable pub insert_answer : List ℕ → PutAnswer
insert_answer l = cond (ltb (length (entries_of l)) (blocks_in l)) (Ok tt) (Err Full)

unfoldable pub insert_store : List ℕ → ℕ → Entry → List ℕ
insert_store l i e = cond (ltb (length (entries_of l)) (blocks_in l)) (bytes_of (blocks_in l) (insert_at i e (entries_of l))) l
