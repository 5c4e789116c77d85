-- Laws of one turn of a loop.
use Rattle.std.specs.Prelude.{◌≡◌, ℕ, ◌-◌, ◌&&◌, List, leb, eqb, length, get_or}
use Rattle.std.proofs.Common.{sym, ap₂}
use Rattle.log_readings.specs.Lent.{places_from, all_named, readings_good}

pub good-test : (l : List ℕ) {t u : ℕ} → t ≡ get_or l 0 0 → u ≡ get_or l 1 0
    → readings_good l ≡ (eqb (length l) 134 && (leb t 4 && (leb u 2 && (all_named (places_from l 0 t) && all_named (places_from l 4 u)))))
unfolding readings_good
good-test l e f = ap₂ (λ t u. eqb (length l) 134 && (leb t 4 && (leb u 2 && (all_named (places_from l 0 t) && all_named (places_from l 4 u))))) (sym e) (sym f)
