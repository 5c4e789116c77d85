-- What follows of the definitions of `Compression`: the standard's two lines on the schedule, and the steps that a loop takes.
-- Assumes nothing.
use Rattle.std.specs.Prelude.{◌≡◌, ℕ, zero, suc, ◌+◌, ◌-◌, ◌*◌, ◌<◌, ◌≤◌, ◌⊎◌, List, [], ◌∷◌, length, bit_xor, slice_index, refl}
use Rattle.std.proofs.Common.{sym, ◌∙◌, ⊎_elim, arith, add-one, length-append, eq-or-lt_of_le, lt-ltb, le-ltb}
use Rattle.std.proofs.Math.ListN.{get_or-append}
use Rattle.std.proofs.lemmas.List.{get_or_at}
use Rattle.signature_sha1_compression.specs.declared.State.{State}
use Rattle.signature_sha1_compression.specs.Compression.{ROTL, word, next_w, grow, words, W, rounds, step}

pub words-length : (m : List ℕ) (t : ℕ) → length (words m t) ≡ t
unfolding words grow
words-length m zero = refl
words-length m (suc t) = simp (length-append, words-length m t) (omega arith)

same : (t n : ℕ) → t ≡ n → t ≡ n
same t n e = e

at-or-below : (t n : ℕ) → t < suc n → (t ≡ n) ⊎ (t < n)
at-or-below t n h = eq-or-lt_of_le (omega arith)

-- the t-th of the first n words is W_t
pub words-at : (m : List ℕ) (n t : ℕ) → t < n → slice_index (words m n) t ≡ W m t
unfolding words grow W
words-at m zero t h = absurd (omega arith)
words-at m (suc n) t h =
    ⊎_elim
    (λ e. simp (same t n e) (get_or_at (words m n) (next_w m (words m n) n) [] 0 n (words-length m n)))
    (λ l. get_or-append (words m n) (next_w m (words m n) n ∷ []) 0 t (simp (words-length m n) l) ∙ words-at m n t l)
    (at-or-below t n h)

pub W-first : (m : List ℕ) (t : ℕ) → t < 16 → W m t ≡ word m (4 * t)
unfolding W next_w
W-first m t h = simp (lt-ltb t 16 h)

pub W-later : (m : List ℕ) (t : ℕ) → 16 ≤ t → W m t ≡ ROTL 1 (bit_xor (bit_xor (bit_xor (W m (t - 3)) (W m (t - 8))) (W m (t - 14))) (W m (t - 16)))
unfolding W next_w
W-later m t h =
    simp (
      le-ltb t 16 h,
      words-at m t (t - 3) (omega arith),
      words-at m t (t - 8) (omega arith),
      words-at m t (t - 14) (omega arith),
      words-at m t (t - 16) (omega arith),
    )

-- the same, from four words wherever they were kept
pub W-next : (m : List ℕ) (t p q r s : ℕ) → 16 ≤ t → p ≡ W m (t - 3) → q ≡ W m (t - 8) → r ≡ W m (t - 14) → s ≡ W m (t - 16)
    → ROTL 1 (bit_xor (bit_xor (bit_xor p q) r) s) ≡ W m t
W-next m t p q r s h e₁ e₂ e₃ e₄ = rw (e₁, e₂, e₃, e₄) (sym (W-later m t h))

pub rounds-none : (m : List ℕ) (s : State) → rounds m s 0 ≡ s
unfolding rounds
rounds-none m s = refl

pub rounds-more : (m : List ℕ) (s : State) (t : ℕ) → rounds m s (t + 1) ≡ step t (W m t) (rounds m s t)
unfolding rounds
rounds-more m s t = rw add-one
