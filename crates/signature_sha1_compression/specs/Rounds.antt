-- What the parts of the code do: names for the contracts of the functions that no other crate calls.
use Rattle.std.specs.Prelude.{◌≡◌, ℕ, ◌+◌, ◌<◌, ◌≤◌, List}
use Rattle.signature_sha1_compression.specs.declared.State.{State}
use Rattle.signature_sha1_compression.specs.Compression.{f, K, rounds}
use Rattle.signature_sha1_compression.specs.Ring.{RingBefore}

-- before round t, over the block m and from the hash value h: the ring w and the working variables s
pub record BeforeRound (m : List ℕ) (h : State) (t : ℕ) (w : List ℕ) (s : State) : Type 0 where
  pub ring : RingBefore m t w
  pub state : s ≡ rounds m h t

-- from w and s before round `from` to w' and r before round `to`, whatever the block and the hash value
abbrev pub Advances : ℕ → ℕ → List ℕ → State → List ℕ → State → Type 0
Advances from to w s w' r = (m : List ℕ) (h : State) → BeforeRound m h from w s → BeforeRound m h to w' r

-- the twenty rounds from `from` on are those of the constant k and of a function of which g holds with what it gives of three words
pub record Twenty (g : ℕ → ℕ → ℕ → ℕ → Type 0) (k from : ℕ) : Type 0 where
  pub low : from ≤ 60
  pub function : (t x y z r : ℕ) → from ≤ t → t < from + 20 → g x y z r → r ≡ f t x y z
  pub constant : (t : ℕ) → from ≤ t → t < from + 20 → K t ≡ k
