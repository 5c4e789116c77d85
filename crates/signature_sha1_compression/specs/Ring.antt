-- The schedule words that are kept, sixteen in a ring: names for the contracts of the functions that no other crate calls.
use Rattle.std.specs.Prelude.{◌≡◌, ℕ, ◌+◌, ◌%◌, ◌<◌, ◌≤◌, max, List, length, slice_index}
use Rattle.signature_sha1_compression.specs.Compression.{W}

-- w has sixteen places, and of the first n schedule words of the block m it holds the last sixteen, word j at place j % 16
pub record Ring (m : List ℕ) (n : ℕ) (w : List ℕ) : Type 0 where
  pub size : length w ≡ 16
  pub last : (j : ℕ) → j < n → n ≤ j + 16 → slice_index w (j % 16) ≡ W m j

-- the ring before round t: the first sixteen words are put in at the start, and then word t by round t
abbrev pub RingBefore : List ℕ → ℕ → List ℕ → Type 0
RingBefore m t w = Ring m (max 16 t) w

-- Change request 3: "each of the eighty rounds takes from it the schedule word that FIPS 180-4 gives that round".
-- Of whatever block w is the ring before round t, the word r that is taken is the block's W_t, and w' is its ring before the next round.
pub record TakesWord (t : ℕ) (w w' : List ℕ) (r : ℕ) : Type 0 where
  pub word : (m : List ℕ) → RingBefore m t w → r ≡ W m t
  pub ring : (m : List ℕ) → RingBefore m t w → RingBefore m (t + 1) w'
