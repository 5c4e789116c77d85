-- A scope of an ACL that grants a permission, by its number.
use Rattle.std.specs.Prelude.{◌≡◌, Bool, true, false, List, [], ℕ, ◌<◌, length, get_or}
use Rattle.access_record.specs.Table.{Scope, Acl}
use Rattle.access_permission.specs.Permission.{fits, holds, allows}

abbrev pub no_scope : Scope
no_scope = record { offset = 0; value = []; permissions = 0; tls_required = false }

-- scope number `at` of the ACL holds the permission, allows the connection and fits the key
pub record Granted (a : Acl) (protected : Bool) (p : ℕ) (k : List ℕ) : Type 0 where
  pub at : ℕ
  pub below : at < length a.scopes
  pub held : holds (get_or a.scopes at no_scope) p ≡ true
  pub allowed : allows (get_or a.scopes at no_scope) protected ≡ true
  pub fitting : fits (get_or a.scopes at no_scope) k ≡ true
