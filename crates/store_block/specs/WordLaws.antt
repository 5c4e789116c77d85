-- Bytes read as one big-endian number stand to each other as that number does.
use Rattle.std.specs.Prelude.{◌≡◌, List, [], ◌∷◌, length, drop}
use Rattle.std.specs.Int.{w32, from_be_bytes}
use Rattle.std.proofs.Math.Path.{sym, ap}
use Rattle.std.proofs.Common.{◌∙◌, mul-le-mul, add-mul}
use Prim.Native.Nat.{ℕ, zero, suc, ◌+◌, ◌*◌, ◌^◌, ◌≤◌, ◌<◌}
use native.Mathlib.Omega.{arith}
use Rattle.std.proofs.Math.Nat.{pow-succ'}
use Rattle.std.proofs.Math.ListN.{get_or}
use Rattle.std.specs.declared.cmp.Ordering.TheVariants.{Less, Greater}
use Rattle.std.specs.Ordering.{nat_cmp}
use Rattle.std.specs.Cmp.{nat_cmp_is}
use Rattle.store_block.specs.Order.{cmp}
use Rattle.store_block.specs.OrderLaws.{three, at_less, at_greater, at_same}
use Rattle.store_block.specs.Word.{word_at, Bytes}

more-than : (x y p : ℕ) → y < x → y * p + p ≤ x * p
more-than x y p h =
    let a : (y + 1) * p ≤ x * p = mul-le-mul {n₁ = y + 1} {m₁ = p} {n₂ = x} {m₂ = p} (omega arith) (omega arith) in
    let b : (y + 1) * p ≡ y * p + 1 * p = add-mul y 1 p in
    omega arith

pub word_small : (k : ℕ) (l : List ℕ) (i : ℕ) → Bytes l → word_at k l i < 256 ^ k
unfolding word_at
word_small zero l i b = omega arith
word_small (suc k) l i b =
    let ih = word_small k l (i + 1) b in
    let h = more-than 256 (get_or l i 0) (256 ^ k) (b.fits i) in
    let p : 256 ^ suc k ≡ 256 * 256 ^ k = pow-succ' 256 k in
    omega arith

module _ (a b : List ℕ) (ba : Bytes a) (bb : Bytes b) where
  pub word-less : (k i : ℕ) → i + k ≤ length a → i + k ≤ length b → word_at k a i < word_at k b i → cmp (drop i a) (drop i b) ≡ Less
  unfolding word_at
  word-less zero i h j l = absurd (omega arith)
  word-less (suc k) i h j l = go (λ q. word-less k (i + 1) (omega arith) (omega arith) q)
    where
      go : (word_at k a (i + 1) < word_at k b (i + 1) → cmp (drop (i + 1) a) (drop (i + 1) b) ≡ Less) → cmp (drop i a) (drop i b) ≡ Less
      go ih =
          three (get_or a i 0) (get_or b i 0)
          (λ q. at_less a b i (omega arith) (omega arith) q)
          (λ q. absurd (let m = more-than (get_or a i 0) (get_or b i 0) (256 ^ k) q in let s = word_small k b (i + 1) bb in omega arith))
          (λ q.
          let e : get_or a i 0 * 256 ^ k ≡ get_or b i 0 * 256 ^ k = ap (λ (x : ℕ). x * 256 ^ k) q in
          at_same a b i (omega arith) (omega arith) q ∙ ih (omega arith))

  pub word-greater : (k i : ℕ) → i + k ≤ length a → i + k ≤ length b → word_at k b i < word_at k a i → cmp (drop i a) (drop i b) ≡ Greater
  unfolding word_at
  word-greater zero i h j l = absurd (omega arith)
  word-greater (suc k) i h j l = go (λ q. word-greater k (i + 1) (omega arith) (omega arith) q)
    where
      go : (word_at k b (i + 1) < word_at k a (i + 1) → cmp (drop (i + 1) a) (drop (i + 1) b) ≡ Greater) → cmp (drop i a) (drop i b) ≡ Greater
      go ih =
          three (get_or a i 0) (get_or b i 0)
          (λ q. absurd (let m = more-than (get_or b i 0) (get_or a i 0) (256 ^ k) q in let s = word_small k a (i + 1) ba in omega arith))
          (λ q. at_greater a b i (omega arith) (omega arith) q)
          (λ q.
          let e : get_or a i 0 * 256 ^ k ≡ get_or b i 0 * 256 ^ k = ap (λ (x : ℕ). x * 256 ^ k) q in
          at_same a b i (omega arith) (omega arith) q ∙ ih (omega arith))

  pub word_same : (k i : ℕ) → i + k ≤ length a → i + k ≤ length b → word_at k a i ≡ word_at k b i → cmp (drop i a) (drop i b) ≡ cmp (drop (i + k) a) (drop (i + k) b)
  unfolding word_at
  word_same zero i h j l = let z : i ≡ i + 0 = omega arith in ap (λ (n : ℕ). cmp (drop n a) (drop n b)) z
  word_same (suc k) i h j l = go (λ q. word_same k (i + 1) (omega arith) (omega arith) q)
    where
      go : (word_at k a (i + 1) ≡ word_at k b (i + 1) → cmp (drop (i + 1) a) (drop (i + 1) b) ≡ cmp (drop (i + 1 + k) a) (drop (i + 1 + k) b)) → cmp (drop i a) (drop i b) ≡ cmp (drop (i + suc k) a) (drop (i + suc k) b)
      go ih =
          let z : i + 1 + k ≡ i + suc k = omega arith in
          three (get_or a i 0) (get_or b i 0)
          (λ q. absurd (let m = more-than (get_or b i 0) (get_or a i 0) (256 ^ k) q in let s = word_small k a (i + 1) ba in omega arith))
          (λ q. absurd (let m = more-than (get_or a i 0) (get_or b i 0) (256 ^ k) q in let s = word_small k b (i + 1) bb in omega arith))
          (λ q.
          let e : get_or a i 0 * 256 ^ k ≡ get_or b i 0 * 256 ^ k = ap (λ (x : ℕ). x * 256 ^ k) q in
          at_same a b i (omega arith) (omega arith) q ∙ ih (omega arith) ∙ ap (λ (n : ℕ). cmp (drop n a) (drop n b)) z)

  -- by the order of the numbers, where they differ
  pub word-order : (k i : ℕ) → i + k ≤ length a → i + k ≤ length b → (word_at k a i ≡ word_at k b i → ⊥)
      → nat_cmp (word_at k a i) (word_at k b i) ≡ cmp (drop i a) (drop i b)
  word-order k i h j n =
      three (word_at k a i) (word_at k b i)
      (λ q. sym (nat_cmp_is _ _ Less q) ∙ sym (word-less k i h j q))
      (λ q. sym (nat_cmp_is _ _ Greater q) ∙ sym (word-greater k i h j q))
      (λ q. absurd (n q))

-- four bytes as the library reads them
pub word-four : (l : List ℕ) (i : ℕ) → from_be_bytes w32 (get_or l i 0 ∷ get_or l (i + 1) 0 ∷ get_or l (i + 2) 0 ∷ get_or l (i + 3) 0 ∷ []) ≡ word_at 4 l i
unfolding word_at
word-four l i =
    let q2 : get_or l (i + 1 + 1) 0 ≡ get_or l (i + 2) 0 = let z : i + 1 + 1 ≡ i + 2 = omega arith in ap (λ (m : ℕ). get_or l m 0) z in
    let q3 : get_or l (i + 1 + 1 + 1) 0 ≡ get_or l (i + 3) 0 = let z : i + 1 + 1 + 1 ≡ i + 3 = omega arith in ap (λ (m : ℕ). get_or l m 0) z in
    omega arith
