-- Document 003, GetLog.Type.
use Rattle.std.specs.Prelude.{ℕ}

abbrev pub UTILIZATIONS : ℕ
UTILIZATIONS = 0

abbrev pub TEMPERATURES : ℕ
TEMPERATURES = 1

abbrev pub CAPACITIES : ℕ
CAPACITIES = 2

abbrev pub CONFIGURATION : ℕ
CONFIGURATION = 3

abbrev pub STATISTICS : ℕ
STATISTICS = 4

abbrev pub MESSAGES : ℕ
MESSAGES = 5

abbrev pub LIMITS : ℕ
LIMITS = 6

abbrev pub DEVICE : ℕ
DEVICE = 7
