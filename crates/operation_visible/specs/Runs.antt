-- Entries of places in a row, and what is left of them from the first that passes a test on.
use Rattle.std.specs.Prelude.{Bool, true, false, cond, List, [], ◌∷◌, ℕ, zero, suc, ◌+◌, ◌-◌, get_or}
use Rattle.store_block.specs.Entry.{Entry, no_entry}
use Rattle.operation_visible.specs.declared.Run.{Run}

-- the place after another: "ascending, or descending with reverse"
abbrev pub onward : Bool → ℕ → ℕ
onward false i = i + 1
onward true i = i - 1

unfoldable pub entries_from : Bool → ℕ → ℕ → List Entry → List Entry
entries_from reverse i zero es = []
entries_from reverse i (suc n) es = get_or es i no_entry ∷ entries_from reverse (onward reverse i) n es

abbrev pub along : Run → List Entry → List Entry
along r es = entries_from r.reverse r.first r.count es

abbrev pub run : ℕ → ℕ → Bool → Run
run i n reverse = record { first = i; count = n; reverse = reverse }

-- a run without its first place
abbrev pub rest_of : Run → Run
rest_of r = run (onward r.reverse r.first) (r.count - 1) r.reverse

unfoldable pub skipped_from : (Entry → Bool) → List Entry → Bool → ℕ → ℕ → Run
skipped_from f es reverse i zero = run i 0 reverse
skipped_from f es reverse i (suc n) = cond (f (get_or es i no_entry)) (run i (suc n) reverse) (skipped_from f es reverse (onward reverse i) n)

abbrev pub skipped : (Entry → Bool) → List Entry → Run → Run
skipped f es r = skipped_from f es r.reverse r.first r.count
