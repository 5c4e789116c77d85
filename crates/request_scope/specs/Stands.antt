-- What a part of a command says as a Scope, an ACL or a Security.
use Rattle.std.specs.Prelude.{List, ℕ}
use Rattle.fields_schema.specs.declared.Kind.{Kind}
use Rattle.fields_schema.specs.declared.Kind.TheVariants as kind
use Rattle.fields_lookup.specs.Views.{Inside, Reads, bytes_at, tree_of}
use Rattle.fields_lookup.specs.declared.parts.Part.{Part}
use Rattle.protocol.specs.Command.{Scope, Acl, scope_of, acl_of, security_of}

-- a part that lies inside and decodes
pub record Stands (k : Kind) (s : List ℕ) (p : Part) : Type 0 where
  pub inside : Inside s p
  pub reads : Reads k (bytes_at s p)

abbrev pub StandsScope : List ℕ → Part → Type 0
StandsScope s p = Stands kind.Scope s p

abbrev pub StandsAcl : List ℕ → Part → Type 0
StandsAcl s p = Stands kind.Acl s p

abbrev pub StandsSecurity : List ℕ → Part → Type 0
StandsSecurity s p = Stands kind.Security s p

-- what it says
abbrev pub scope_in : List ℕ → Part → Scope
scope_in s p = scope_of (tree_of kind.Scope (bytes_at s p))

abbrev pub acl_in : List ℕ → Part → Acl
acl_in s p = acl_of (tree_of kind.Acl (bytes_at s p))

abbrev pub acls_in : List ℕ → Part → List Acl
acls_in s p = security_of (tree_of kind.Security (bytes_at s p))
