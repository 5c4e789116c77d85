-- What follows of the definitions of `Rounds`: the rounds by their function. Assumes nothing.
use Rattle.std.specs.Prelude.{◌≡◌, ℕ}
use Rattle.std.proofs.Common.{arith, lt-ltb, le-ltb}
use Rattle.signature_sha1_compression.specs.Compression.{Ch, Parity, Maj, f, K}
use Rattle.signature_sha1_compression.specs.Rounds.{Twenty}

pub choice : {g : ℕ → ℕ → ℕ → ℕ → Type 0} → ((x y z r : ℕ) → g x y z r → r ≡ Ch x y z) → Twenty g 0x5a827999 0
unfolding f K
choice is = record {
  low = omega arith;
  function = λ t x y z r h l e. rw (lt-ltb t 20 l) (is x y z r e);
  constant = λ t h l. rw (lt-ltb t 20 l);
}

pub parity-20 : {g : ℕ → ℕ → ℕ → ℕ → Type 0} → ((x y z r : ℕ) → g x y z r → r ≡ Parity x y z) → Twenty g 0x6ed9eba1 20
unfolding f K
parity-20 is = record {
  low = omega arith;
  function = λ t x y z r h l e. rw (le-ltb t 20 h, lt-ltb t 40 l) (is x y z r e);
  constant = λ t h l. rw (le-ltb t 20 h, lt-ltb t 40 l);
}

pub majority : {g : ℕ → ℕ → ℕ → ℕ → Type 0} → ((x y z r : ℕ) → g x y z r → r ≡ Maj x y z) → Twenty g 0x8f1bbcdc 40
unfolding f K
majority is = record {
  low = omega arith;
  function = λ t x y z r h l e. rw (le-ltb t 20 (omega arith), le-ltb t 40 h, lt-ltb t 60 l) (is x y z r e);
  constant = λ t h l. rw (le-ltb t 20 (omega arith), le-ltb t 40 h, lt-ltb t 60 l);
}

pub parity-60 : {g : ℕ → ℕ → ℕ → ℕ → Type 0} → ((x y z r : ℕ) → g x y z r → r ≡ Parity x y z) → Twenty g 0xca62c1d6 60
unfolding f K
parity-60 is = record {
  low = omega arith;
  function = λ t x y z r h l e. rw (le-ltb t 20 (omega arith), le-ltb t 40 (omega arith), le-ltb t 60 h) (is x y z r e);
  constant = λ t h l. rw (le-ltb t 20 (omega arith), le-ltb t 40 (omega arith), le-ltb t 60 h);
}
