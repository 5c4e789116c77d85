-- A range by what the code is given of it.
use Rattle.std.specs.Prelude.{Bool, List, ℕ}
use Rattle.std.proofs.Math.Option.{some}
use Rattle.protocol.specs.Command.{Range}
use Rattle.operation_range.specs.declared.RangeOptions.{RangeOptions}

-- a range whose keys are there
abbrev pub range_with : List ℕ → List ℕ → Bool → Bool → ℕ → Bool → Range
range_with s e start_inclusive end_inclusive most reverse =
    record { start_key = some s; end_key = some e; start_inclusive = start_inclusive; end_inclusive = end_inclusive; max_returned = most; reverse = reverse }

abbrev pub range_by : List ℕ → List ℕ → RangeOptions → Range
range_by s e o = range_with s e o.start_inclusive o.end_inclusive o.most o.reverse
