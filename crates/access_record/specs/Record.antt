-- The device record, 2,960 bytes, numbers big-endian:
--
--   0-7 cluster version, 8 number of ACLs, 9-15 not used, then eight ACL places of 368 bytes.
--   ACL place: 0-7 identity, 8 key length, 9 number of scopes, 10-15 not used, 16-79 key, then four scope places of 72 bytes.
--   Scope place: 0 offset, 1 value length, 2-3 permission mask, 4 TlsRequired (not zero: yes), 5-7 not used, 8-71 value.
--
-- What is not used is not looked at, and is written as zero.
use Rattle.std.specs.Prelude.{◌≡◌, Bool, true, false, not, List, [], ◌∷◌, ◌++◌, ℕ, zero, suc, ◌+◌, ◌*◌, ◌/◌, ◌%◌, ◌<◌, eqb, length, drop, get_or}
use Rattle.base_definitions.specs.Lists.{fill}
use Rattle.base_definitions.specs.BigEndian.{be32}
use Rattle.access_record.specs.Table.{Scope, Acl, Table, table_good}
use Rattle.access_record.specs.Offsets.{ACL_COUNT, ACLS, ACL_BYTES, KEY_LENGTH, SCOPE_COUNT, KEY, SCOPES, SCOPE_BYTES, VALUE_LENGTH, PERMISSIONS, TLS_REQUIRED, VALUE}

-- ---- the table that a record holds: total, since past the end of the list every byte is 0

unfoldable pub bytes_at : List ℕ → ℕ → ℕ → List ℕ
bytes_at l a zero = []
bytes_at l a (suc n) = get_or l a 0 ∷ bytes_at l (a + 1) n

unfoldable pub half_at : List ℕ → ℕ → ℕ
half_at l a = get_or l a 0 * 16777216 + get_or l (a + 1) 0 * 65536 + get_or l (a + 2) 0 * 256 + get_or l (a + 3) 0

unfoldable pub word_at : List ℕ → ℕ → ℕ
word_at l a = half_at l a * 4294967296 + half_at l (a + 4)

unfoldable pub scope_at : List ℕ → ℕ → Scope
scope_at l a =
    record {
      offset = get_or l a 0;
      value = bytes_at l (a + VALUE) (get_or l (a + VALUE_LENGTH) 0);
      permissions = get_or l (a + PERMISSIONS) 0 * 256 + get_or l (a + (PERMISSIONS + 1)) 0;
      tls_required = not (eqb (get_or l (a + TLS_REQUIRED) 0) 0);
    }

unfoldable pub scopes_at : List ℕ → ℕ → ℕ → List Scope
scopes_at l a zero = []
scopes_at l a (suc n) = scope_at l a ∷ scopes_at l (a + SCOPE_BYTES) n

unfoldable pub acl_at : List ℕ → ℕ → Acl
acl_at l a =
    record {
      identity = word_at l a;
      key = bytes_at l (a + KEY) (get_or l (a + KEY_LENGTH) 0);
      scopes = scopes_at l (a + SCOPES) (get_or l (a + SCOPE_COUNT) 0);
    }

unfoldable pub acls_at : List ℕ → ℕ → ℕ → List Acl
acls_at l a zero = []
acls_at l a (suc n) = acl_at l a ∷ acls_at l (a + ACL_BYTES) n

unfoldable pub table_of : List ℕ → Table
table_of l = record { cluster_version = word_at l 0; acls = acls_at l ACLS (get_or l ACL_COUNT 0) }

-- ---- the record of a table, every byte decided

unfoldable pub word_bytes : ℕ → List ℕ
word_bytes w = be32 (w / 4294967296) ++ be32 (w % 4294967296)

abbrev pub flag : Bool → ℕ
flag true = 1
flag false = 0

unfoldable pub scope_bytes : Scope → List ℕ
scope_bytes s =
    s.offset ∷ length s.value ∷ (s.permissions / 256) ∷ (s.permissions % 256) ∷ flag s.tls_required ∷ 0 ∷ 0 ∷ 0 ∷ fill 64 s.value

unfoldable pub scopes_bytes : List Scope → List ℕ
scopes_bytes [] = []
scopes_bytes (s ∷ ss) = scope_bytes s ++ scopes_bytes ss

-- bytes 0-79 of the place of an ACL with n scopes
unfoldable pub acl_head : ℕ → List ℕ → ℕ → List ℕ
acl_head w key n = word_bytes w ++ (length key ∷ n ∷ 0 ∷ 0 ∷ 0 ∷ 0 ∷ 0 ∷ 0 ∷ fill 64 key)

unfoldable pub acl_bytes : Acl → List ℕ
acl_bytes a = acl_head a.identity a.key (length a.scopes) ++ fill 288 (scopes_bytes a.scopes)

unfoldable pub acls_bytes : List Acl → List ℕ
acls_bytes [] = []
acls_bytes (a ∷ rest) = acl_bytes a ++ acls_bytes rest

-- bytes 0-15 of the record of n ACLs
unfoldable pub table_head : ℕ → ℕ → List ℕ
table_head v n = word_bytes v ++ (n ∷ 0 ∷ 0 ∷ 0 ∷ 0 ∷ 0 ∷ 0 ∷ 0 ∷ [])

unfoldable pub table_bytes : Table → List ℕ
table_bytes t = table_head t.cluster_version (length t.acls) ++ fill 2944 (acls_bytes t.acls)

-- the record with another cluster version: all other bytes stand
unfoldable pub with_cluster_version : List ℕ → ℕ → List ℕ
with_cluster_version l v = word_bytes v ++ drop 8 l

-- a good record, and a place of its table
pub record Placed (l : List ℕ) (i : ℕ) : Type 0 where
  pub good : table_good (table_of l) ≡ true
  pub below : i < length (table_of l).acls
