-- Document 003, MessageType: the requests that are built, and the type that no message has.
use Rattle.std.specs.Prelude.{ℕ, ◌-◌, ◌^◌}

abbrev pub GET : ℕ
GET = 2

abbrev pub PUT : ℕ
PUT = 4

abbrev pub DELETE : ℕ
DELETE = 6

abbrev pub GETNEXT : ℕ
GETNEXT = 8

abbrev pub GETPREVIOUS : ℕ
GETPREVIOUS = 10

abbrev pub GETKEYRANGE : ℕ
GETKEYRANGE = 12

abbrev pub GETVERSION : ℕ
GETVERSION = 16

abbrev pub SETUP : ℕ
SETUP = 22

abbrev pub GETLOG : ℕ
GETLOG = 24

abbrev pub SECURITY : ℕ
SECURITY = 26

abbrev pub NOOP : ℕ
NOOP = 30

abbrev pub FLUSHALLDATA : ℕ
FLUSHALLDATA = 32

-- -1, as a 64-bit word
abbrev pub INVALID_MESSAGE_TYPE : ℕ
INVALID_MESSAGE_TYPE = 2 ^ 64 - 1
