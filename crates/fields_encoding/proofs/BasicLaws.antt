-- What the laws of this crate share.
use Rattle.std.specs.Prelude.{ℕ, ◌≡◌, Bool, true}
use Rattle.std.proofs.Common.{arith}
use Rattle.std.proofs.Math.Option.{some}
use Rattle.fields_schema.specs.Tree.{guard}

-- from equal values of different constructors anything follows, by `never (cc)`
pub never : {B : Type 0} → ◌≡◌ {A = ℕ} 0 1 → B
never e = absurd (omega arith)

-- a value that passes its test
pub guarded : {A : Type 0} {t : Bool} {a : A} → t ≡ true → guard t a ≡ some a
guarded e = rw e
