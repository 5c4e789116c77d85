-- What the answers about a scope mean.
use Rattle.std.specs.Prelude.{ℕ, ◌≤◌, ◌≡◌, List, Bool, true, false, ◌&&◌, Some, None}
use Rattle.std.specs.Prelude as std
use Rattle.std.specs.Bool.{then_some}
use Rattle.access_record.specs.Table as access
use Rattle.access_record.specs.Table.{mask_of, scope_good}
use Rattle.fields_lookup.specs.Views.{Inside, bytes_at}
use Rattle.protocol.specs.Command.{Scope}
use Rattle.protocol.specs.Judge.{permissions_good, wanted_scope}
use Rattle.request_scope.specs.declared.ReadScope.{ReadScope}

-- "1 to 9 permissions among 0-5, 7, 8, 9", and their set
abbrev pub PermissionsAre : Scope → std.Option ℕ → Type 0
PermissionsAre c r = r ≡ then_some (permissions_good c) (mask_of c.permissions)

-- the ACL rules of one scope: "each with 1 to 9 permissions among 0-5, 7, 8, 9, offset 0 to 64, value at most 64"
unfoldable pub scope_taken : Scope → Bool
scope_taken c = permissions_good c && scope_good (wanted_scope c)

-- a scope as the table has it
abbrev pub scope_view : List ℕ → ReadScope → access.Scope
scope_view s r = record { offset = r.offset; value = bytes_at s r.value; permissions = r.mask; tls_required = r.tls }

pub record ScopeRead (s : List ℕ) (c : Scope) (r : ReadScope) : Type 0 where
  pub taken : scope_taken c ≡ true
  pub inside : Inside s r.value
  pub short : r.value.len ≤ 64
  pub says : scope_view s r ≡ wanted_scope c

abbrev pub ScopeIs : List ℕ → Scope → std.Option ReadScope → Type 0
ScopeIs s c None = scope_taken c ≡ false
ScopeIs s c (Some r) = ScopeRead s c r
