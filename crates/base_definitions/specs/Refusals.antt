-- Document 01, "Call refusals".
use Rattle.std.specs.Prelude.{ℕ}

abbrev pub OUT_SHORT : ℕ
OUT_SHORT = 1

abbrev pub STORE_BAD : ℕ
STORE_BAD = 2

abbrev pub DEVICE_BAD : ℕ
DEVICE_BAD = 3

abbrev pub CLOSED : ℕ
CLOSED = 4

abbrev pub MORE : ℕ
MORE = 5

abbrev pub KEY_BAD : ℕ
KEY_BAD = 6

-- document 02, CR 1
abbrev pub READINGS_BAD : ℕ
READINGS_BAD = 7
