-- Document 01, "Who may": "One single scope of the identity must hold the permission, allow the connection (TlsRequired means protected
-- only), and fit the key: its value is empty, or stands in the key at exactly its offset. SETUP and SECURITY fit any key."
use Rattle.std.specs.Prelude.{Bool, true, false, not, ◌&&◌, ◌||◌, List, [], ℕ, length, take, drop}
use Rattle.base_definitions.specs.Bits.{bit}
use Rattle.base_definitions.specs.Lists.{any, is_empty, same_bytes}
use Rattle.access_record.specs.Table.{Scope, Acl}

-- the value is empty, or stands in the key at exactly the offset
unfoldable pub fits_at : List ℕ → ℕ → List ℕ → Bool
fits_at v o k = is_empty v || same_bytes v (take (length v) (drop o k))

-- "its value is empty, or stands in the key at exactly its offset"
unfoldable pub fits : Scope → List ℕ → Bool
fits s k = fits_at s.value s.offset k

-- "hold the permission"
unfoldable pub holds : Scope → ℕ → Bool
holds s p = bit s.permissions p

-- "allow the connection (TlsRequired means protected only)"
abbrev pub allows : Scope → Bool → Bool
allows s protected = not s.tls_required || protected

-- one scope holds the permission, allows the connection and, where the key counts, fits it
unfoldable pub grants : Bool → List ℕ → Bool → ℕ → Scope → Bool
grants counts k protected p s = holds s p && (allows s protected && (not counts || fits s k))

-- the verdict on permission p for a key
unfoldable pub permits : Acl → Bool → ℕ → List ℕ → Bool
permits a protected p k = any (grants true k protected p) a.scopes

-- the verdict with no key, some scope holds the permission and allows the connection: "SETUP and SECURITY fit any key"; document 02, CR 2: a
-- "scope with the permission that this connection may use"
unfoldable pub permits_any : Acl → Bool → ℕ → Bool
permits_any a protected p = any (grants false [] protected p) a.scopes
