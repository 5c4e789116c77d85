-- Whether what a field holds can be opened.
use Rattle.std.specs.Prelude.{ℕ, List, Bool, true, take, drop}
use Rattle.fields_schema.specs.Tree.{is_some, listed}
use Rattle.fields_value.specs.declared.Taken.{Taken}
use Rattle.fields_value.specs.declared.Taken.TheVariants.{Number, Slice, Fixed, Inside}

abbrev pub opens_taken : List ℕ → Taken → Bool
opens_taken s (Number v) = true
opens_taken s (Slice start len) = true
opens_taken s (Fixed start) = true
opens_taken s (Inside k start len) = is_some (listed k (take len (drop start s)))
