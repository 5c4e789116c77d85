-- Fields before others that may not be there.
use Rattle.std.specs.Prelude.{List, ◌++◌}
use Rattle.std.proofs.Math.Option.{Option, none, some}
use Rattle.fields_wire.specs.Wire.{Field}

abbrev pub append_o : List Field → Option (List Field) → Option (List Field)
append_o fs none = none
append_o fs (some gs) = some (fs ++ gs)
