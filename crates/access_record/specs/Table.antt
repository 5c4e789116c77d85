-- The table of identities and its rules. Document 01, "The order of judgement", step 8, and refusal 3.
use Rattle.std.specs.Prelude.{Bool, true, false, not, cond, ◌&&◌, ◌||◌, List, [], ◌∷◌, ℕ, ◌+◌, ◌/◌, ◌%◌, eqb, leb, pos, length, get_or, Option, Some, None}
use Rattle.std.specs.Int.Signed.{lt_z}
use Rattle.base_definitions.specs.Lists.{all, within}
use Rattle.base_definitions.specs.Bits.{with_bit}
use Rattle.base_integers.specs.Signed.{signed_of}

-- ---- the table

-- "Scope: 1 s offset, 2 b value, 3 e permission, 4 f TlsRequired". The permissions are a set: bit p of the mask for permission p.
pub record Scope : Type 0 where
  pub offset : ℕ
  pub value : List ℕ
  pub permissions : ℕ
  pub tls_required : Bool

-- "ACL: 1 s identity, 2 b key, 3 e hmacAlgorithm, 4 m scope". An identity is the 64-bit word of its two's complement.
pub record Acl : Type 0 where
  pub identity : ℕ
  pub key : List ℕ
  pub scopes : List Scope

-- the ACLs, and the device's cluster version, a 64-bit word likewise
pub record Table : Type 0 where
  pub cluster_version : ℕ
  pub acls : List Acl

-- ---- tests

-- ---- sets of permissions

-- "permissions among 0-5, 7, 8, 9"
unfoldable pub named : ℕ → Bool
named p = leb p 5 || within 7 9 p

-- "Permissions come one per field": the set of those that are listed
unfoldable pub mask_of : List ℕ → ℕ
mask_of [] = 0
mask_of (p ∷ ps) = with_bit (mask_of ps) p

-- the scope with the listed permissions
abbrev pub scope_of : ℕ → List ℕ → List ℕ → Bool → Scope
scope_of offset value ps tls_required =
    record { offset = offset; value = value; permissions = mask_of ps; tls_required = tls_required }

-- ---- the ACL rules: "1 to 8 ACLs, identities present and distinct, key 1 to 64, 1 to 4 scopes, each with 1 to 9 permissions among
-- 0-5, 7, 8, 9, offset 0 to 64, value at most 64"

-- at least one permission, and only named ones
unfoldable pub mask_good : ℕ → Bool
mask_good m = leb 1 m && (leb m 1023 && eqb (m / 64 % 2) 0)

-- "offset 0 to 64", "Negative offsets are refused": by the number that its word stands for
unfoldable pub offset_good : ℕ → Bool
offset_good v = not (lt_z (signed_of v) (pos 0)) && not (lt_z (pos 64) (signed_of v))

unfoldable pub scope_good : Scope → Bool
scope_good s = offset_good s.offset && (leb (length s.value) 64 && mask_good s.permissions)

unfoldable pub acl_good : Acl → Bool
acl_good a = within 1 64 (length a.key) && (within 1 4 (length a.scopes) && all scope_good a.scopes)

-- the first ACL that has the identity, counted from i
unfoldable pub find_from : ℕ → ℕ → List Acl → Option ℕ
find_from i w [] = None
find_from i w (a ∷ rest) = cond (eqb a.identity w) (Some i) (find_from (i + 1) w rest)

abbrev pub is_nobody : Option ℕ → Bool
is_nobody None = true
is_nobody (Some i) = false

-- each ACL is good, and none after it has its identity
unfoldable pub acls_good : List Acl → Bool
acls_good [] = true
acls_good (a ∷ rest) = acl_good a && (is_nobody (find_from 0 a.identity rest) && acls_good rest)

unfoldable pub table_good : Table → Bool
table_good t = within 1 8 (length t.acls) && acls_good t.acls

-- ---- look-up

-- step 2: "Identity in the table"
unfoldable pub place_of : Table → ℕ → Option ℕ
place_of t w = find_from 0 w t.acls

abbrev pub no_acl : Acl
no_acl = record { identity = 0; key = []; scopes = [] }

-- the ACL at a place; where there is none, one that holds nothing
unfoldable pub acl_of : Table → ℕ → Acl
acl_of t i = get_or t.acls i no_acl

-- ---- Format: "The one ACL is identity 1, a key from the host, one scope with every permission, cluster version 0."

abbrev pub every_scope : Scope
every_scope = record { offset = 0; value = []; permissions = 959; tls_required = false }

abbrev pub host_acl : List ℕ → Acl
host_acl key = record { identity = 1; key = key; scopes = every_scope ∷ [] }

abbrev pub host_table : List ℕ → Table
host_table key = record { cluster_version = 0; acls = host_acl key ∷ [] }
