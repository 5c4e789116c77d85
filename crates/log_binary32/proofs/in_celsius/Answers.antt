-- `log_binary32::in_celsius` meets its contract: a Celsius reading is itself, and of a Fahrenheit one the three steps are those of `specs/` (`celsius-bits`).
-- Assumes nothing.
use mathlib.Core.Path.{sym, ap, ◌∙◌}
use Rattle.std.proofs.Common.{rules}
use Rattle.log_binary32.specs.Celsius.{celsius_bits}
use Rattle.log_binary32.proofs.Bridge.{celsius-bits}
use Rattle.log_binary32.proofs.in_celsius.Goals as goal

pub returns-in-Celsius : goal.returns-in-Celsius
unfolding celsius_bits
returns-in-Celsius c = sym (ap celsius_bits c.in-Celsius.is)

pub returns-in-Fahrenheit : goal.returns-in-Fahrenheit
unfolding celsius_bits
returns-in-Fahrenheit c = celsius-bits c.in-Fahrenheit.x (search rules) ∙ sym (ap celsius_bits c.in-Fahrenheit.is)
