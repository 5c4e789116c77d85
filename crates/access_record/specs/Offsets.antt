-- Places in the device record, in the place of an ACL and in the place of a scope.
use Rattle.std.specs.Prelude.{ℕ}

-- in the record: the number of ACLs
abbrev pub ACL_COUNT : ℕ
ACL_COUNT = 8

-- the first ACL place
abbrev pub ACLS : ℕ
ACLS = 16

-- from one ACL place to the next
abbrev pub ACL_BYTES : ℕ
ACL_BYTES = 368

-- in an ACL place: the length of the key
abbrev pub KEY_LENGTH : ℕ
KEY_LENGTH = 8

-- the number of scopes
abbrev pub SCOPE_COUNT : ℕ
SCOPE_COUNT = 9

-- the key
abbrev pub KEY : ℕ
KEY = 16

-- the first scope place
abbrev pub SCOPES : ℕ
SCOPES = 80

-- from one scope place to the next
abbrev pub SCOPE_BYTES : ℕ
SCOPE_BYTES = 72

-- in a scope place, after the offset: the value's length
abbrev pub VALUE_LENGTH : ℕ
VALUE_LENGTH = 1

-- the permission mask
abbrev pub PERMISSIONS : ℕ
PERMISSIONS = 2

-- TlsRequired
abbrev pub TLS_REQUIRED : ℕ
TLS_REQUIRED = 4

-- the value
abbrev pub VALUE : ℕ
VALUE = 8
