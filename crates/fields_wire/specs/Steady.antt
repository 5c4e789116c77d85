-- What a reader keeps: what follows does not change what is read, and what is left is shorter.
use Rattle.std.specs.Prelude.{ℕ, ◌+◌, ◌≤◌, ◌≡◌, List, ◌++◌, length}
use Rattle.fields_wire.specs.Reader.{got, Reader}

-- what a reader that takes at least n bytes keeps
pub record Steady {A : Type 0} (n : ℕ) (f : Reader A) : Type 0 where
  pub more : (xs ys : List ℕ) {a : A} {r : List ℕ} → f xs ≡ got a r → f (xs ++ ys) ≡ got a (r ++ ys)
  pub less : (xs : List ℕ) {a : A} {r : List ℕ} → f xs ≡ got a r → n + length r ≤ length xs
