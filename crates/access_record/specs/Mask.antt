-- The permissions that a mask holds, as a list.
use Rattle.std.specs.Prelude.{Bool, true, false, List, [], ◌∷◌, ℕ}
use Rattle.base_definitions.specs.Bits.{bit}

abbrev pub cons_if : Bool → ℕ → List ℕ → List ℕ
cons_if true p ps = p ∷ ps
cons_if false p ps = ps

unfoldable pub keep : (ℕ → Bool) → List ℕ → List ℕ
keep f [] = []
keep f (p ∷ ps) = cons_if (f p) p (keep f ps)

abbrev pub listed : List ℕ
listed = 0 ∷ 1 ∷ 2 ∷ 3 ∷ 4 ∷ 5 ∷ 7 ∷ 8 ∷ 9 ∷ []

-- the permissions of a mask
unfoldable pub permissions_of : ℕ → List ℕ
permissions_of m = keep (bit m) listed
