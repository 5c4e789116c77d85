-- The numbers of the items that were read so far.
use Rattle.std.specs.Prelude.{ℕ, ◌≡◌, List}
use Rattle.fields_schema.specs.Tree.{is_some, among, Item, find}

-- the numbers of the items so far
pub record Known (ns : List ℕ) (acc : List Item) : Type 0 where
  pub same : (m : ℕ) → is_some (find m acc) ≡ among m ns
