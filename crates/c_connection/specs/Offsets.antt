-- Places in the bytes of a connection, after its number.
use Rattle.std.specs.Prelude.{ℕ}

-- protected
abbrev pub PROTECTED : ℕ
PROTECTED = 8

-- closed
abbrev pub CLOSED : ℕ
CLOSED = 9

-- a sequence was accepted
abbrev pub SEEN : ℕ
SEEN = 10

-- the last accepted sequence
abbrev pub LAST : ℕ
LAST = 16
