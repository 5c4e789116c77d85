-- What follows of the definitions of `Sha1`: the padding, and the steps that a loop takes.
-- Assumes nothing.
use Rattle.std.specs.Prelude.{◌≡◌, refl, List, [], ◌++◌, ℕ, zero, suc, ◌+◌, ◌-◌, ◌*◌, ◌/◌, ◌%◌, ◌^◌, ◌≤◌, ◌<◌, length, get_or, take, drop}
use Rattle.std.specs.Int.{w32, w64, to_be_bytes}
use Rattle.std.specs.Simd.{first_chunks}
use Rattle.std.proofs.Common.{sym, ap, ap₂, ◌∙◌, arith, add-one, length-append, length-take, length-drop, drop-drop, take_all, take_at, drop_at, add-zero, add-suc, lt-ltb, le-ltb}
use Rattle.std.proofs.lemmas.List.{length-replicate, drop-append-le, take-append-le}
use Rattle.signature_sha1_compression.specs.declared.State.{State}
use Rattle.signature_sha1_compression.specs.Compression.{compress}
use Rattle.signature_sha1.specs.Sha1.{block, chain, be, zeros, pad, overall, finish, sha1, sha1_answer}

pub chain-none : (h : State) (bs : List ℕ) → chain h bs 0 ≡ h
unfolding chain
chain-none h bs = refl

pub chain_more : (h : State) (bs : List ℕ) (i : ℕ) → chain h bs (i + 1) ≡ compress (chain h bs i) (block bs i)
unfolding chain
chain_more h bs i = rw add-one

-- blocks that lie within a list are its own, whatever follows it
pub block_in : (a b : List ℕ) (i : ℕ) → 64 * i + 64 ≤ length a → block (a ++ b) i ≡ block a i
unfolding block
block_in a b i h =
    ap (take 64) (drop-append-le (64 * i) a b (omega arith))
    ∙ take-append-le 64 (drop (64 * i) a) b (simp length-drop (omega arith))

pub chain-in : (h : State) (a b : List ℕ) (i : ℕ) → 64 * i ≤ length a → chain h (a ++ b) i ≡ chain h a i
unfolding chain
chain-in h a b zero l = refl
chain-in h a b (suc i) l = ap₂ compress (chain-in h a b i (omega arith)) (block_in a b i (omega arith))

-- the blocks after the first p
pub block-cut : (bs : List ℕ) (p i : ℕ) → block (drop (64 * p) bs) i ≡ block bs (p + i)
unfolding block
block-cut bs p i =
    let e : 64 * p + 64 * i ≡ 64 * (p + i) = omega arith in
    ap (take 64) (drop-drop (64 * i) (64 * p) bs ∙ ap (λ (n : ℕ). drop n bs) e)

pub chain-cut : (h : State) (bs : List ℕ) (p q : ℕ) → chain (chain h bs p) (drop (64 * p) bs) q ≡ chain h bs (p + q)
unfolding chain
chain-cut h bs p zero = rw add-zero
chain-cut h bs p (suc q) = rw add-suc (ap₂ compress (chain-cut h bs p q) (block-cut bs p q))

pub be-length : (k v : ℕ) → length (be k v) ≡ k
unfolding be
be-length zero v = refl
be-length (suc k) v = ap suc (be-length k v)

pub be-at : (k v j : ℕ) → j < k → get_or (be k v) j 0 ≡ v / 2 ^ (8 * (k - 1 - j)) % 2 ^ 8
unfolding be
be-at zero v j h = absurd (omega arith)
be-at (suc k) v zero h = ap (λ (n : ℕ). v / 2 ^ (8 * n) % 2 ^ 8) (omega arith)
be-at (suc k) v (suc j) h = be-at k v j (omega arith) ∙ ap (λ (n : ℕ). v / 2 ^ (8 * n) % 2 ^ 8) (omega arith)

-- §5.1.1's rule: a whole number of blocks, and no fewer zeros would do
pub zeros-right : (n : ℕ) → (n + 1 + zeros n + 8) % 64 ≡ 0
unfolding zeros
zeros-right n = omega arith

pub zeros-least : (n : ℕ) → zeros n < 64
unfolding zeros
zeros-least n = omega arith

-- the same in bits, as the standard has it: the one bit and 8 * zeros n + 7 zero bits, the fewest that end at 448 modulo 512
pub zeros-bits : (n : ℕ) → ((8 * n + 1 + (8 * zeros n + 7)) % 512 ≡ 448) × ((k : ℕ) → (8 * n + 1 + k) % 512 ≡ 448 → 8 * zeros n + 7 ≤ k)
unfolding zeros
zeros-bits n = (omega arith, λ k h. omega arith)

pub pad-length : (n : ℕ) → length (pad n) ≡ 9 + zeros n
unfolding pad
pad-length n = simp (length-append, length-replicate, be-length) (omega arith)

-- a message taken in two parts: its first p blocks, and what is left with the padding behind it
pub finish-split : (h : State) (taken p : ℕ) (text : List ℕ) → 64 * p ≤ length text
    → overall (chain h text p) (drop (64 * p) text ++ pad (taken + length text)) ≡ finish h taken text
unfolding finish overall
finish-split h taken p text l =
    let t : List ℕ = pad (taken + length text) in
    let q : ℕ = length (drop (64 * p) text ++ t) / 64 in
    let e : p + q ≡ length (text ++ t) / 64 = simp (length-append, length-drop) (omega arith) in
    ap₂ (λ s r. chain s r q) (sym (chain-in h text t p l)) (sym (drop-append-le (64 * p) text t l))
    ∙ chain-cut h (text ++ t) p q
    ∙ ap (chain h (text ++ t)) e

chain-one : (h : State) (k text : List ℕ) → length k ≡ 64 → chain h (k ++ text) 1 ≡ compress h k
unfolding chain block
chain-one h k text e = ap (compress h) (take_at k text 64 e)

-- a message whose first block has been taken
pub finish-after : (h : State) (k text : List ℕ) → length k ≡ 64 → finish h 0 (k ++ text) ≡ finish (compress h k) 64 text
unfolding finish
finish-after h k text e =
    let n : 0 + length (k ++ text) ≡ 64 + length text = simp (length-append, e) (omega arith) in
    sym (finish-split h 0 1 (k ++ text) (simp (length-append, e) (omega arith)))
    ∙ ap₂ overall (chain-one h k text e) (ap₂ (λ l m. l ++ pad m) (drop_at k text 64 e) n)

-- one block, and two
pub overall-one : (h : State) (b : List ℕ) → length b ≡ 64 → overall h b ≡ compress h b
unfolding overall chain block
overall-one h b e = ap (λ (n : ℕ). chain h b (n / 64)) e ∙ ap (compress h) (take_all 64 b (omega arith))

pub overall-two : (h : State) (a b : List ℕ) → length a ≡ 64 → length b ≡ 64 → overall h (a ++ b) ≡ compress (compress h a) b
unfolding overall chain block
overall-two h a b e l =
    let n : length (a ++ b) ≡ 128 = simp (length-append, e, l) refl in
    ap (λ (n : ℕ). chain h (a ++ b) (n / 64)) n
    ∙ ap₂ compress (ap (compress h) (take_at a b 64 e)) (ap (take 64) (drop_at a b 64 e) ∙ take_all 64 b (omega arith))

-- §1's limit in bytes: every text of up to 2^61 - 1 has its digest, and no longer one has any
pub taken-up-to : (text : List ℕ) → length text ≤ 2 ^ 61 - 1 → sha1_answer text ≡ record { number = 0; digest = sha1 text }
unfolding sha1_answer
taken-up-to text h = rw (lt-ltb (8 * length text) (2 ^ 64) (omega arith))

pub refused-from : (text : List ℕ) → 2 ^ 61 ≤ length text → sha1_answer text ≡ record { number = 1; digest = [] }
unfolding sha1_answer
refused-from text h = rw (le-ltb (8 * length text) (2 ^ 64) (omega arith))

-- the bytes of a word, as the library gives them
pub bytes_of_word : (v : ℕ) → to_be_bytes w32 v ≡ be 4 v
unfolding be
bytes_of_word v = let e : v ≡ v / 1 = omega arith in rw (← e) refl

pub bytes_of_size : (v : ℕ) → to_be_bytes w64 v ≡ be 8 v
unfolding be
bytes_of_size v = let e : v ≡ v / 1 = omega arith in rw (← e) refl

-- block i of those that a text is cut into
pub cut_at : (bs : List ℕ) {blocks : List (List ℕ)} (i : ℕ) → blocks ≡ first_chunks 64 (length bs / 64) bs → i < length bs / 64
    → get_or blocks i [] ≡ block bs i
unfolding block
cut_at bs i e h = ap (λ b. get_or b i []) e ∙ chunk_at bs (length bs / 64) i h
  where
    chunk_at : (bs : List ℕ) (k i : ℕ) → i < k → get_or (first_chunks 64 k bs) i [] ≡ block bs i
    chunk_at bs zero i h = absurd (omega arith)
    chunk_at bs (suc k) zero h = refl
    chunk_at bs (suc k) (suc i) h =
        let e : 64 + 64 * i ≡ 64 * suc i = omega arith in
        chunk_at (drop 64 bs) k i (omega arith)
        ∙ ap (take 64) (drop-drop (64 * i) 64 bs ∙ ap (λ (n : ℕ). drop n bs) e)

pub block-length : (bs : List ℕ) (i : ℕ) → i < length bs / 64 → length (block bs i) ≡ 64
unfolding block
block-length bs i h = simp (length-take, length-drop) (omega arith)
