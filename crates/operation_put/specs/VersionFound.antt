-- How a dbVersion stands to what is stored, and whether PUT goes on.
use Rattle.std.specs.Prelude.{Bool, true, false, cond, List, ℕ, eqb, length}
use Rattle.std.proofs.Math.Option.{Option, none, some}
use Rattle.base_definitions.specs.Lists.{same_bytes}
use Rattle.store_block.specs.Entry.{Entry}
use Rattle.operation_put.specs.declared.version.Version.{Version}
use Rattle.operation_put.specs.declared.version.Version.TheVariants.{Same, Other, Absent}

abbrev pub version_found : List ℕ → Option Entry → Version
version_found old none = Absent
version_found old (some e) = cond (same_bytes old e.version) Same Other

-- "without force, dbVersion must equal the stored version, or be empty for a new key"
abbrev pub version_fits : Version → List ℕ → Bool → Bool
version_fits v old true = true
version_fits Same old false = true
version_fits Other old false = false
version_fits Absent old false = eqb (length old) 0
