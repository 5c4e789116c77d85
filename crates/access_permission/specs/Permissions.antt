-- Document 003, Security.ACL.Permission: those that an operation asks for.
use Rattle.std.specs.Prelude.{ℕ}

abbrev pub READ : ℕ
READ = 0

abbrev pub WRITE : ℕ
WRITE = 1

abbrev pub DELETE : ℕ
DELETE = 2

abbrev pub RANGE : ℕ
RANGE = 3

abbrev pub SETUP : ℕ
SETUP = 4

abbrev pub GETLOG : ℕ
GETLOG = 7

abbrev pub SECURITY : ℕ
SECURITY = 8
