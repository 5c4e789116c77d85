-- What a call leaves behind.
use Rattle.std.specs.Prelude.{cond, ◌≡◌, List, ℕ, eqb}
use Rattle.signature_sha1.specs.Sha1.{Answer}

-- the number of the answer, and its digest where there is one; else the lent bytes as they were
pub record Written (a : Answer) (before : List ℕ) (r : ℕ) (after : List ℕ) : Type 0 where
  pub number : r ≡ a.number
  pub digest : after ≡ cond (eqb a.number 0) a.digest before
