-- What follows of the definitions of `Ring`: one word more, and the word that each round takes. Assumes nothing.
use Rattle.std.specs.Prelude.{◌≡◌, ℕ, zero, suc, ◌+◌, ◌-◌, ◌%◌, ◌<◌, ◌≤◌, max, List, length, bit_xor, slice_index, slice_set}
use Rattle.std.proofs.Common.{◌∙◌, ⊎_elim, arith, eq-or-lt_of_le, add-one, length-set, get_or-set_same, get_or-set_other}
use Rattle.signature_sha1_compression.specs.Compression.{ROTL, W}
use Rattle.signature_sha1_compression.specs.CompressionLaws.{W-next}
use Rattle.signature_sha1_compression.specs.Ring.{Ring, RingBefore, TakesWord}

pub ring-none : (m w : List ℕ) → length w ≡ 16 → Ring m 0 w
ring-none m w e = record { size = e; last = λ j h. absurd (omega arith) }

-- one word more, at its place i
pub ring-more : (m w : List ℕ) (n i x : ℕ) → i ≡ n % 16 → Ring m n w → x ≡ W m n → Ring m (n + 1) (slice_set w i x)
ring-more m w n i x p r e = record { size = simp length-set r.size; last = at }
  where
    here : (j : ℕ) → j ≡ n → slice_index (slice_set w i x) (j % 16) ≡ W m j
    here j q = rw (q, ← p) (get_or-set_same w i x 0 (omega arith) ∙ e)

    before : (j : ℕ) → j < n → n + 1 ≤ j + 16 → slice_index (slice_set w i x) (j % 16) ≡ W m j
    before j h l = get_or-set_other w i (j % 16) x 0 (omega arith) ∙ r.last j h (omega arith)

    at : (j : ℕ) → j < n + 1 → n + 1 ≤ j + 16 → slice_index (slice_set w i x) (j % 16) ≡ W m j
    at j h l = ⊎_elim (λ q. here j q) (λ b. before j b l) (eq-or-lt_of_le {n = j} {m = n} (omega arith))

-- rounds 0 to 15 find their word at its place i
pub takes_first : (w : List ℕ) (t i : ℕ) → t < 16 → i ≡ t % 16 → TakesWord t w w (slice_index w i)
takes_first w t i h place =
    let count : max 16 t ≡ 16 = omega arith in
    let after : max 16 (t + 1) ≡ 16 = omega arith in
    record {
      word = λ m r. rw place (r.last t (omega arith) (omega arith));
      ring = λ m r. rw (count, ← after) at r;
    }

-- from round 16 on a word is made of four words of the ring, and put at its place i
pub takes-later : (w : List ℕ) (t i x : ℕ) → 16 ≤ t → i ≡ t % 16
    → x ≡ ROTL 1 (bit_xor (bit_xor (bit_xor (slice_index w ((t - 3) % 16)) (slice_index w ((t - 8) % 16))) (slice_index w ((t - 14) % 16))) (slice_index w ((t - 16) % 16)))
    → TakesWord t w (slice_set w i x) x
takes-later w t i x h place e =
    let count : max 16 t ≡ t = omega arith in
    let after : max 16 (t + 1) ≡ t + 1 = omega arith in
    record {
      word = λ m r. next m (rw count at r);
      ring = λ m r. let q = rw count at r in rw after (ring-more m w t i x place q (next m q));
    }
  where
    next : (m : List ℕ) → Ring m t w → x ≡ W m t
    next m r =
        e
        ∙ W-next m t _ _ _ _ h
        (r.last (t - 3) (omega arith) (omega arith))
        (r.last (t - 8) (omega arith) (omega arith))
        (r.last (t - 14) (omega arith) (omega arith))
        (r.last (t - 16) (omega arith) (omega arith))

-- All eighty: if the words r 0 to r 79 are taken one after the other, from the ring of the first sixteen on, then r t is W_t.
pub each-round : (m : List ℕ) (w : ℕ → List ℕ) (r : ℕ → ℕ) → Ring m 16 (w 0) → ((t : ℕ) → t < 80 → TakesWord t (w t) (w (t + 1)) (r t))
    → (t : ℕ) → t < 80 → r t ≡ W m t
each-round m w r first takes t h = (takes t h).word m (before t (omega arith))
  where
    before : (t : ℕ) → t ≤ 80 → RingBefore m t (w t)
    before zero l = first
    before (suc t) l = rw (add-one t) at ((takes t (omega arith)).ring m (before t (omega arith)))
