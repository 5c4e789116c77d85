-- The parts of a log in the runs that a writer makes of them, from its end to its front.
use Rattle.std.specs.Prelude.{ℕ, Bool, cond, List, []}
use Rattle.fields_schema.specs.FieldNumbers.{Limits-max_key_size, Limits-max_value_size, Limits-max_version_size, Limits-max_tag_size}
use Rattle.fields_schema.specs.Tree.{Tree, done, int}
use Rattle.log_readings.specs.Lent.{places_from, sample_of}
use Rattle.base_definitions.specs.Lists.{map_l}
use Rattle.protocol.specs.Reply.{sample_tree}

-- the first four of the limits
abbrev pub sizes : Tree
sizes = int Limits-max_key_size 64 (int Limits-max_value_size 384 (int Limits-max_version_size 16 (int Limits-max_tag_size 32 done)))

-- readings of either kind, if they are asked for: n places from the first on
abbrev pub samples_if : Bool → Bool → List ℕ → ℕ → ℕ → List Tree
samples_if asked temperature l first n = map_l sample_tree (cond asked (map_l (sample_of temperature) (places_from l first n)) [])
