-- Laws of Option that the readings of messages use, and of what is never so.
use Rattle.std.specs.Prelude.{ℕ, ◌≡◌, refl, Bool, true, false}
use Rattle.std.proofs.Common.{arith}
use Rattle.std.proofs.Math.Option.{Option, none, some}
use Rattle.fields_schema.specs.Tree.{then_o, guard, is_some}

pub never : {A : Type 0} → ◌≡◌ {A = ℕ} 0 1 → A
never e = absurd (omega arith)

pub nothing-some : {A B : Type 0} {a : A} → ◌≡◌ {A = Option A} none (some a) → B
nothing-some e = never (cc)

pub then_some : {A B : Type 0} (o : Option A) (f : A → Option B) {b : B} → then_o o f ≡ some b → (a : A) × (o ≡ some a) × (f a ≡ some b)
then_some none f e = nothing-some e
then_some (some a) f e = (a, refl, e)

pub guard-some : {A : Type 0} (t : Bool) {a b : A} → guard t a ≡ some b → (t ≡ true) × (a ≡ b)
guard-some true e = (refl, cc)
guard-some false e = nothing-some e

pub none_of : {A : Type 0} (o : Option A) → is_some o ≡ false → o ≡ none
none_of none e = refl
none_of (some a) e = never (cc)
