-- The numbers of failures.
use Rattle.std.specs.Prelude.{◌≡◌, ℕ, ◌<◌, Ok, Err}
use Rattle.std.proofs.Common.{arith, sym, ap, ◌∙◌, refl}
use Rattle.protocol.specs.declared.status.Failure.{Failure}
use Rattle.protocol.specs.declared.status.Failure.TheVariants.{HmacFailure, NotAuthorized, VersionFailure, HeaderRequired, NotFound, VersionMismatch, NoSpace, NoSuchHmacAlgorithm, InvalidRequest, ConnectionTerminated}
use Rattle.protocol.specs.Failure.{Done, number_of, code_of, fault_of}

-- each is above SUCCESS
pub number-above : (f : Failure) → 1 < number_of f
number-above HmacFailure = omega arith
number-above NotAuthorized = omega arith
number-above VersionFailure = omega arith
number-above HeaderRequired = omega arith
number-above NotFound = omega arith
number-above VersionMismatch = omega arith
number-above NoSpace = omega arith
number-above NoSuchHmacAlgorithm = omega arith
number-above InvalidRequest = omega arith
number-above ConnectionTerminated = omega arith

-- what fails says its failure
module _ {r : Done} {f : Failure} (e : r ≡ Err f) where
  pub says-fault : {n : ℕ} → n ≡ number_of f → n ≡ fault_of r
  says-fault g = g ∙ sym (ap fault_of e)

  pub says-code : {n : ℕ} → n ≡ number_of f → n ≡ code_of r
  says-code g = g ∙ sym (ap code_of e)

  pub fault-there : fault_of r ≡ 0 → ⊥
  fault-there z = let h = number-above f in let k = says-fault refl in omega (arith, h, k, z)

  pub code-failed : code_of r ≡ 1 → ⊥
  code-failed z = let h = number-above f in let k = says-code refl in omega (arith, h, k, z)

-- what doesn't fail breaks no rule
pub fault-none : (r : Done) → ((f : Failure) → r ≡ Err f → ⊥) → fault_of r ≡ 0
fault-none (Ok u) h = refl
fault-none (Err f) h = absurd (h f refl)
