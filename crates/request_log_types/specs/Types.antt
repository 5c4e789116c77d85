-- The types that getLogs ask for, and their set.
use Rattle.std.specs.Prelude.{◌≡◌, List, ℕ}
use Rattle.fields_schema.specs.FieldNumbers.{Body-get_log}
use Rattle.fields_schema.specs.Tree.{Tree, sub_at, tree_in}
use Rattle.access_record.specs.Table.{mask_of}
use Rattle.protocol.specs.Command.{types_of}

-- the set has a bit for each type that is asked for, whatever the order and number of asking
pub record TypesAre (types : List ℕ) (mask : ℕ) : Type 0 where
  pub set : mask ≡ mask_of types

-- the set of the types of the getLogs that t joins; of the getLogs in the bodies that t joins
abbrev pub LogTypes : Tree → ℕ → Type 0
LogTypes t mask = TypesAre (types_of t) mask

abbrev pub BodyTypes : Tree → ℕ → Type 0
BodyTypes t mask = LogTypes (tree_in (sub_at Body-get_log t)) mask
