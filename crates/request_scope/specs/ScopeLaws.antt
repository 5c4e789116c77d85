-- Laws that the proofs about scopes, ACLs and their algorithms share.
use Rattle.std.specs.Prelude.{ℕ, ◌≡◌, refl, List, [], Bool, true, false, ◌&&◌}
use Rattle.std.proofs.Common.{arith}
use Rattle.std.proofs.Math.Option.{Option, none, some}
use Rattle.fields_schema.specs.Tree.{level}
use Rattle.fields_schema.specs.declared.Kind.{Kind}
use Rattle.fields_decode.specs.Slots.{Tells}
use Rattle.fields_decode.specs.declared.slots.Slots.{Slots}
use Rattle.base_definitions.specs.Options.{or_else}
use Rattle.fields_lookup.specs.Views.{bytes_at, Level}
use Rattle.fields_lookup.specs.declared.parts.Part.{Part}
use Rattle.request_scope.specs.Stands.{Stands}

pub both_false : (x : Bool) → (x && false) ≡ false
both_false true = refl
both_false false = refl

pub never : {A : Type 0} → ◌≡◌ {A = Bool} false true → A
never e = let z : ◌≡◌ {A = ℕ} 0 1 = cc in absurd (omega arith)

pub level-at : {k : Kind} {s : List ℕ} {p : Part} (t : Slots) → Stands k s p → Tells k (bytes_at s p) t (level k (bytes_at s p)) → Level k (bytes_at s p) t
level-at t y h = record { tells = h; reads = y.reads }

pub or-empty : (o : Option (List ℕ)) → or_else [] o ≡ or_else [] o
or-empty none = refl
or-empty (some b) = refl
