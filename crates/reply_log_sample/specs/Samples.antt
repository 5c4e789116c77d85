-- The readings of a run of places as messages, and the steps of writing them from the last to the first.
use Rattle.std.specs.Prelude.{ℕ, Bool, List}
use Rattle.fields_schema.specs.Tree.{Tree}
use Rattle.log_readings.specs.Lent.{places_from, sample_of}
use Rattle.base_definitions.specs.Lists.{map_l}
use Rattle.protocol.specs.Reply.{sample_tree}

-- "readings in lent order": n places from the place i on, as temperatures or utilizations
abbrev pub sample_trees : Bool → List ℕ → ℕ → ℕ → List Tree
sample_trees temperature l i n = map_l sample_tree (map_l (sample_of temperature) (places_from l i n))
