-- The entry under a key.
use Rattle.std.specs.Prelude.{List, [], ◌∷◌, ℕ}
use Rattle.std.proofs.Math.Option.{Option, none, some}
use Rattle.store_block.specs.Order.{cmp}
use Rattle.store_block.specs.Entry.{Entry}
use Rattle.store_layout.specs.Entries.{by_order}

-- among entries that ascend
unfoldable pub under : List ℕ → List Entry → Option Entry
under k [] = none
under k (e ∷ es) = by_order (cmp k e.key) none (some e) (under k es)
