-- What both calls cite.
use mathlib.Core.Bool.{cond}
use mathlib.Core.Path.{◌≡◌, refl}
use mathlib.Core.List.{List}
use Prim.Native.Nat.{ℕ}
use lib.Dec.{eqb}
use Rattle.signature_sha1.specs.Sha1.{Answer}
use Rattle.c_digest.specs.Written.{Written}

-- from the answer a, which is b
pub written : (a b : Answer) (before after : List ℕ) → a ≡ b → after ≡ cond (eqb a.number 0) a.digest before → Written b before a.number after
written a b before after e h = rw (← e) (record { number = refl; digest = h })
