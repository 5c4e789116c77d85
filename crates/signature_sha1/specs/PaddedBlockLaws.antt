-- What follows of the definitions of `Steps`: the last blocks of a message. Assumes nothing.
use Rattle.std.specs.Prelude.{◌≡◌, refl, List, ◌∷◌, ◌++◌, ℕ, zero, suc, ◌+◌, ◌-◌, ◌*◌, ◌%◌, ◌≤◌, ◌<◌, length, get_or, take, drop, set, replicate}
use Rattle.std.proofs.Common.{sym, ap, ap₂, ◌∙◌, append-nil, append_assoc, arith, zero-add, add-one, length-append, drop_of_length-le, take_at, take_all}
use Rattle.std.proofs.lemmas.List.{length-replicate, replicate-append-replicate, set_at}
use Rattle.std.proofs.Math.Seq.{take-length, paste, paste-suc}
use Rattle.signature_sha1_compression.specs.declared.State.{State}
use Rattle.signature_sha1_compression.specs.Compression.{compress}
use Rattle.signature_sha1.specs.Sha1.{be, zeros, pad, overall}
use Rattle.signature_sha1.specs.Sha1Laws.{be-length, pad-length, overall-one, overall-two}
use Rattle.signature_sha1.specs.PaddedBlocks.{marked_block, sized_block}

-- the last bytes of a message and the padding are one block, or two
marked-split : (rest : List ℕ) (p q : ℕ) → p + q ≡ 63 - length rest → marked_block rest ≡ (rest ++ (0x80 ∷ replicate p 0)) ++ replicate q 0
unfolding marked_block
marked-split rest p q e =
    ap (λ (n : ℕ). rest ++ (0x80 ∷ replicate n 0)) (sym e) ∙ ap (λ z. rest ++ (0x80 ∷ z)) (sym (replicate-append-replicate p q 0))
    ∙ sym (append_assoc rest (0x80 ∷ replicate p 0) (replicate q 0))

one_block : (rest : List ℕ) (n : ℕ) → length rest ≡ n % 64 → length rest < 56 → sized_block (marked_block rest) n ≡ rest ++ pad n
unfolding sized_block pad zeros
one_block rest n e l =
    let z : zeros n + 8 ≡ 63 - length rest = omega arith in
    let front = rest ++ (0x80 ∷ replicate (zeros n) 0) in
    let size : length front ≡ 56 = simp (length-append, length-replicate) (omega arith) in
    ap (λ b. take 56 b ++ be 8 (8 * n)) (marked-split rest (zeros n) 8 z)
    ∙ ap (λ b. b ++ be 8 (8 * n)) (take_at front (replicate 8 0) 56 size)
    ∙ append_assoc rest (0x80 ∷ replicate (zeros n) 0) (be 8 (8 * n))

two_blocks : (rest : List ℕ) (n : ℕ) → length rest ≡ n % 64 → 56 ≤ length rest → marked_block rest ++ sized_block (replicate 64 0) n ≡ rest ++ pad n
unfolding marked_block sized_block pad zeros
two_blocks rest n e l =
    let z : 63 - length rest + 56 ≡ zeros n = omega arith in
    append_assoc rest (0x80 ∷ replicate (63 - length rest) 0) (replicate 56 0 ++ be 8 (8 * n))
    ∙ ap (λ b. rest ++ (0x80 ∷ b))
    (sym (append_assoc (replicate (63 - length rest) 0) (replicate 56 0) (be 8 (8 * n)))
    ∙ ap (λ b. b ++ be 8 (8 * n)) (replicate-append-replicate (63 - length rest) 56 0 ∙ ap (λ (k : ℕ). replicate k 0) z))

pub marked-length : (rest : List ℕ) → length rest < 64 → length (marked_block rest) ≡ 64
unfolding marked_block
marked-length rest h = simp (length-append, length-replicate) (omega arith)

pub last_one : (h : State) (rest : List ℕ) (n : ℕ) → length rest ≡ n % 64 → length rest < 56
    → compress h (sized_block (marked_block rest) n) ≡ overall h (rest ++ pad n)
unfolding zeros
last_one h rest n e l =
    let size : length (sized_block (marked_block rest) n) ≡ 64 = ap length (one_block rest n e l) ∙ simp (length-append, pad-length) (omega arith) in
    sym (ap (overall h) (sym (one_block rest n e l)) ∙ overall-one h (sized_block (marked_block rest) n) size)

pub last-two : (h : State) (rest : List ℕ) (n : ℕ) → length rest ≡ n % 64 → 56 ≤ length rest
    → compress (compress h (marked_block rest)) (sized_block (replicate 64 0) n) ≡ overall h (rest ++ pad n)
unfolding sized_block
last-two h rest n e l =
    let size : length (replicate 56 0 ++ be 8 (8 * n)) ≡ 64 = simp be-length refl in
    sym (ap (overall h) (sym (two_blocks rest n e l)) ∙ overall-two h (marked_block rest) (sized_block (replicate 64 0) n) (marked-length rest (omega arith)) size)

-- one byte more of s written over d from `at` on
pub paste_more : (d : List ℕ) (at : ℕ) (s : List ℕ) (j x : ℕ) {b : List ℕ} → b ≡ paste d at s j → at + j < length d → j < length s → x ≡ get_or s j 0
    → set b (at + j) x ≡ paste d at s (j + 1)
paste_more d at s j x e h l q = rw (e, q, add-one) (paste-suc d at s j 0 h l)

pub front-more : (d s : List ℕ) (j x : ℕ) {b : List ℕ} → b ≡ paste d 0 s j → j < length d → j < length s → x ≡ get_or s j 0
    → set b j x ≡ paste d 0 s (j + 1)
front-more d s j x {b} e h l q = ap (λ (i : ℕ). set b i x) (sym (zero-add j)) ∙ paste_more d 0 s j x e (omega arith) l q

-- a block that starts as sixty-four of one byte, with the first bytes written over
drop-replicate : (k n a : ℕ) → drop k (replicate n a) ≡ replicate (n - k) a
drop-replicate zero n a = let e : n ≡ n - 0 = omega arith in ap (λ (m : ℕ). replicate m a) e
drop-replicate (suc k) zero a = let e : 0 ≡ 0 - suc k = omega arith in ap (λ (m : ℕ). replicate m a) e
drop-replicate (suc k) (suc n) a = let e : n - k ≡ suc n - suc k = omega arith in drop-replicate k n a ∙ ap (λ (m : ℕ). replicate m a) e

pub pasted : (xs : List ℕ) (a : ℕ) → length xs ≤ 64 → paste (replicate 64 a) 0 xs (length xs) ≡ xs ++ replicate (64 - length xs) a
pasted xs a h =
    ap₂ ◌++◌ (take-length xs) (ap (λ (n : ℕ). drop n (replicate 64 a)) (zero-add (length xs)) ∙ drop-replicate (length xs) 64 a)

pub marked-made : (rest : List ℕ) → length rest < 64 → set (rest ++ drop (length rest) (replicate 64 0)) (length rest) 0x80 ≡ marked_block rest
unfolding marked_block
marked-made rest h =
    let e : 64 - length rest ≡ suc (63 - length rest) = omega arith in
    ap (λ z. set (rest ++ z) (length rest) 0x80) (drop-replicate (length rest) 64 0 ∙ ap (λ (n : ℕ). replicate n 0) e)
    ∙ set_at rest 0 (replicate (63 - length rest) 0) 0x80 (length rest) refl

pub sized-made : (b : List ℕ) (n : ℕ) → length b ≡ 64 → paste b 56 (be 8 (8 * n)) 8 ≡ sized_block b n
unfolding sized_block
sized-made b n e =
    ap₂ (λ x y. (take 56 b ++ x) ++ y) (take_all 8 (be 8 (8 * n)) (omega (arith, be-length 8 (8 * n)))) (drop_of_length-le b {i = 64} (omega arith))
    ∙ append-nil (take 56 b ++ be 8 (8 * n))
