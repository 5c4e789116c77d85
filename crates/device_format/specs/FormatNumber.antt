-- What the answer of Format means.
use Rattle.std.specs.Prelude.{ℕ, Result, Ok, Err}
use Rattle.device_format.specs.declared.FormatError.{FormatError}
use Rattle.device_format.specs.declared.FormatError.TheVariants.{StoreBad, KeyBad}
use Rattle.base_definitions.specs.Refusals.{STORE_BAD, KEY_BAD}

-- document 01's numbers: 0 made, refusals 2 and 6
abbrev pub format_number : Result (Unit {0}) FormatError → ℕ
format_number (Ok done) = 0
format_number (Err StoreBad) = STORE_BAD
format_number (Err KeyBad) = KEY_BAD
