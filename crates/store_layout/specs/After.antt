-- A store after a call: good, as long as it was, with these entries.
use Rattle.std.specs.Prelude.{◌≡◌, List, ℕ}
use Rattle.store_block.specs.Entry.{Entry}
use Rattle.store_layout.specs.Store.{blocks_in, entries_of, Good}

-- a store after a call
pub record After (l m : List ℕ) (es : List Entry) : Type 0 where
  pub good : Good m
  pub entries : entries_of m ≡ es
  pub long : blocks_in m ≡ blocks_in l
