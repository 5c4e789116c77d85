-- The length of a lent store.
use Rattle.std.specs.Prelude.{◌≡◌, Bool, List, ℕ, ◌*◌, length}
use Rattle.std.proofs.Common.{sym}
use Rattle.store_block.specs.Decides.{Decides}
use Rattle.store_block.specs.DecidesLaws.{decides-by, agree, both-decides, leb-decides, eqb-decides}
use Rattle.store_layout.specs.Store.{blocks_in, size_good, Good}
use Rattle.store_layout.proofs.StoreLaws.{good_length}
use Rattle.store_layout.specs.Size.{SizeGood}

pub size-decides : (l : List ℕ) → Decides (size_good l) (SizeGood l)
unfolding size_good
size-decides l =
    decides-by (λ w. record { some = w.0; most = w.1.0; whole = w.1.1 }) (λ g. (g.some, (g.most, g.whole)))
    (both-decides _ _ (leb-decides 1 (blocks_in l)) (both-decides _ _ (leb-decides (blocks_in l) 128) (eqb-decides (blocks_in l * 512) (length l))))

-- a good store has that length
pub good-size : (l : List ℕ) → Good l → SizeGood l
good-size l g = record { some = g.some; most = g.most; whole = sym (good_length l g) }

-- what decides it is that test
pub is-size : (r : Bool) (l : List ℕ) → Decides r (SizeGood l) → r ≡ size_good l
is-size r l d = agree r (size_good l) d (size-decides l)
