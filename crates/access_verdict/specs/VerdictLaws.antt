-- The test of a scope over the record's bytes.
use Rattle.std.specs.Prelude.{◌≡◌, refl, Bool, not, ◌&&◌, ◌||◌, List, ℕ, ◌+◌, ◌*◌, eqb, get_or}
use Rattle.base_definitions.specs.Bits.{bit}
use Rattle.access_record.specs.Record.{bytes_at, scope_at}
use Rattle.access_permission.specs.Permission.{fits_at, fits, holds, grants}

pub grant-test : (counts : Bool) (k : List ℕ) (protected : Bool) (p : ℕ) (l : List ℕ) (a : ℕ)
    → grants counts k protected p (scope_at l a)
    ≡ (bit (get_or l (a + 2) 0 * 256 + get_or l (a + 3) 0) p &&
    ((not (not (eqb (get_or l (a + 4) 0) 0)) || protected) &&
    (not counts || fits_at (bytes_at l (a + 8) (get_or l (a + 1) 0)) (get_or l a 0) k)))
unfolding grants holds scope_at fits
grant-test counts k protected p l a = refl
