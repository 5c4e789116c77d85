-- Document 01, "Blocks": places in a block.
use Rattle.std.specs.Prelude.{ℕ}

-- a block
abbrev pub BLOCK_BYTES : ℕ
BLOCK_BYTES = 512

-- after the byte that says whether it is used: the key's length
abbrev pub KEY_LENGTH : ℕ
KEY_LENGTH = 1

-- the version's
abbrev pub VERSION_LENGTH : ℕ
VERSION_LENGTH = 2

-- the tag's
abbrev pub TAG_LENGTH : ℕ
TAG_LENGTH = 3

-- the value's, two bytes
abbrev pub VALUE_LENGTH : ℕ
VALUE_LENGTH = 4

-- the algorithm
abbrev pub ALGORITHM : ℕ
ALGORITHM = 6

-- the key
abbrev pub KEY : ℕ
KEY = 8

-- the version
abbrev pub VERSION : ℕ
VERSION = 72

-- the tag
abbrev pub TAG : ℕ
TAG = 88

-- the value
abbrev pub VALUE : ℕ
VALUE = 120

-- the check
abbrev pub SUM : ℕ
SUM = 508
