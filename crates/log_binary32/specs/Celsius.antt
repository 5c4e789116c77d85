-- What is sent of a reading. Document 02, CR 1: "arrives as Celsius or as Fahrenheit, and is sent as Celsius", and "A value that isn't finite, as it would
-- be sent, is omitted".
use Rattle.std.specs.Prelude.{ℕ, Bool, cond, Some, None}
use Rattle.std.specs.Prelude as code
use Rattle.std.proofs.Math.Option.{Option, none, some}
use Rattle.std.specs.Float.{binary32}
use Rattle.std.specs.Float.Ieee.{to_bits}
use Rattle.log_binary32.specs.Binary32.{finite, to_celsius}
use Rattle.log_binary32.specs.declared.Temperature.{Temperature}
use Rattle.log_binary32.specs.declared.Temperature.TheVariants.{Celsius, Fahrenheit}

-- the f32 of a temperature in Celsius
unfoldable pub celsius_bits : Temperature → ℕ
celsius_bits (Celsius x) = to_bits binary32 x
celsius_bits (Fahrenheit x) = to_celsius (to_bits binary32 x)

-- the same of a temperature by its bits alone
unfoldable pub celsius_of : Bool → ℕ → ℕ
celsius_of fahrenheit b = cond fahrenheit (to_celsius b) b

-- the bits of a value that is finite, and none of any other
unfoldable pub finite_of : ℕ → Option ℕ
finite_of b = cond (finite b) (some b) none

-- the code's answer, and what it means
unfoldable pub sent_of : ℕ → code.Option ℕ
sent_of b = cond (finite b) (Some b) None

unfoldable pub sent_bits : code.Option ℕ → Option ℕ
sent_bits (Some b) = some b
sent_bits None = none
