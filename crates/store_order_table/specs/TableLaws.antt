-- Laws of an order table.
use Rattle.std.specs.Prelude.{◌≡◌, refl, List, [], ◌∷◌, ◌++◌, ℕ, zero, suc, ◌*◌, ◌<◌, length, drop, get_or}
use Rattle.std.proofs.Common.{ap, not-suc-le-zero, le_of_suc-le-suc}
use Rattle.store_block.specs.Entry.{Entry, no_entry}
use Rattle.store_block.specs.Block.{decode}
use Rattle.store_order_table.specs.Table.{entries_at}

pub length-entries : (l ks : List ℕ) → length (entries_at l ks) ≡ length ks
unfolding entries_at
length-entries l [] = refl
length-entries l (k ∷ ks) = ap suc (length-entries l ks)

pub entries-append : (l ks ms : List ℕ) → entries_at l (ks ++ ms) ≡ entries_at l ks ++ entries_at l ms
unfolding entries_at
entries-append l [] ms = refl
entries-append l (k ∷ ks) ms = ap (λ (es : List Entry). decode (drop (k * 512) l) ∷ es) (entries-append l ks ms)

pub entry-at : (l ks : List ℕ) (m : ℕ) → m < length ks → get_or (entries_at l ks) m no_entry ≡ decode (drop (get_or ks m 0 * 512) l)
unfolding entries_at
entry-at l [] m h = absurd (not-suc-le-zero h)
entry-at l (k ∷ ks) zero h = refl
entry-at l (k ∷ ks) (suc m) h = entry-at l ks m (le_of_suc-le-suc h)
