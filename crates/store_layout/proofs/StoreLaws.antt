-- Laws of the store: its entries and their bytes determine each other; its bytes with an entry put in, replaced or removed.
use Rattle.std.specs.Prelude.{◌≡◌, eqb, Bool, true, false}
use Rattle.std.proofs.Math.Path.{refl, sym, ap, ap₂}
use Rattle.std.proofs.Common.{◌∙◌, subst, not-suc-le-zero, le_of_suc-le-suc, take-append-drop, length-drop, drop_at, length-take-le, drop-drop, drop-cons, get_or-drop, eq-eqb, ne_eqb}
use mathlib.Core.List.{List, [], ◌∷◌, ◌++◌, append_assoc, append-nil}
use Prim.Native.Nat.{ℕ, zero, suc, ◌+◌, ◌-◌, ◌*◌, ◌/◌, ◌≤◌, ◌<◌}
use native.Mathlib.Omega.{arith}
use Rattle.std.proofs.Math.ListN.{length, take, drop, get_or, replicate, length-append, get_or-replicate, length-take}
use Rattle.std.proofs.lemmas.List.{length-replicate, replicate-append-replicate}
use Rattle.std.proofs.Math.Seq.{take_at, drop-append-add, get_or-append-add}
use Rattle.store_block.specs.Entry.{Entry, Fit, no_entry}
use Rattle.store_block.specs.Block.{block, body, head, decode}
use Rattle.store_block.specs.BlockLaws.{sized, decode-block, length-block}
use Rattle.store_block.specs.Over.{over}
use Rattle.store_block.specs.OverLaws.{over-after, over-before}
use Rattle.store_layout.specs.Store.{blocks_in, blocks, bytes_of, entries_from, entries_of, AllFit, none, more, Sorted, Good}
use Rattle.store_layout.specs.Splices.{insert_at, replace_at, remove_at}

pub from-blank : (n : ℕ) (l : List ℕ) → get_or l 0 0 ≡ 0 → entries_from n l ≡ []
unfolding entries_from
from-blank zero l h = refl
from-blank (suc n) l h = rw (entries_from, eq-eqb (get_or l 0 0) 0 h)

pub from-used : (n : ℕ) (l : List ℕ) → (get_or l 0 0 ≡ 0 → ⊥) → entries_from (suc n) l ≡ decode l ∷ entries_from n (drop 512 l)
unfolding entries_from
from-used n l h = rw (entries_from, ne_eqb (get_or l 0 0) 0 h)

-- no more entries than blocks
pub from-room : (n : ℕ) (l : List ℕ) → length (entries_from n l) ≤ n
unfolding entries_from
from-room zero l = omega arith
from-room (suc n) l = go (eqb (get_or l 0 0) 0) (from-room n (drop 512 l))
  where
    go : (b : Bool) → length (entries_from n (drop 512 l)) ≤ n → length {A = Entry} (elim b [ true ↦ [] | false ↦ decode l ∷ entries_from n (drop 512 l) ]) ≤ suc n
    go true h = omega arith
    go false h = omega arith

pub room : (l : List ℕ) → length (entries_of l) ≤ blocks_in l
unfolding entries_of
room l = from-room (blocks_in l) l

pub bytes-cons : (e : Entry) (es : List Entry) (n : ℕ) → bytes_of (suc n) (e ∷ es) ≡ block e ++ bytes_of n es
unfolding bytes_of blocks
bytes-cons e es n =
    let k : suc n - suc (length es) ≡ n - length es = omega arith in
    append_assoc (block e) (blocks es) _ ∙ ap (λ (m : ℕ). block e ++ (blocks es ++ replicate (m * 512) 0)) k

pub bytes-nil : (n : ℕ) → get_or (bytes_of n []) 0 0 ≡ 0
unfolding bytes_of blocks
bytes-nil zero = refl
bytes-nil (suc n) = get_or-replicate ((suc n - 0) * 512) 0 0 0 (omega arith)

-- a used block begins with 1
pub block-first : (e : Entry) (rest : List ℕ) → get_or (block e ++ rest) 0 0 ≡ 1
unfolding block body head
block-first e rest = refl

pub used : (e : Entry) (rest : List ℕ) → get_or (block e ++ rest) 0 0 ≡ 0 → ⊥
used e rest h = let f = block-first e rest in omega arith

entries_from_lem : (n : ℕ) (es : List Entry) → AllFit es → length es ≤ n → entries_from n (bytes_of n es) ≡ es
entries_from_lem n [] none h = from-blank n (bytes_of n []) (bytes-nil n)
entries_from_lem zero (e ∷ es) (more f fs) h = absurd (not-suc-le-zero h)
entries_from_lem (suc n) (e ∷ es) (more f fs) h =
    let ih : entries_from n (bytes_of n es) ≡ es = entries_from_lem n es fs (le_of_suc-le-suc h) in
    ap (entries_from (suc n)) (bytes-cons e es n)
    ∙ from-used n (block e ++ bytes_of n es) (used e (bytes_of n es))
    ∙ ap₂ (λ (x : Entry) (xs : List Entry). x ∷ xs) (decode-block e (bytes_of n es) (sized f))
    (ap (entries_from n) (drop_at (block e) (bytes_of n es) 512 (length-block e (sized f))) ∙ ih)

pub length-blocks : (es : List Entry) → AllFit es → length (blocks es) ≡ length es * 512
unfolding blocks
length-blocks [] none = refl
length-blocks (e ∷ es) (more f fs) =
    let ih = length-blocks es fs in
    let b = length-block e (sized f) in
    simp length-append (omega arith)

pub length-bytes : (es : List Entry) (n : ℕ) → AllFit es → length es ≤ n → length (bytes_of n es) ≡ n * 512
unfolding bytes_of
length-bytes es n fs h = simp (length-append, length-replicate) (omega (arith, length-blocks es fs))

-- the entries of the bytes of entries are those entries
pub entries-bytes : (n : ℕ) (es : List Entry) → AllFit es → length es ≤ n → entries_of (bytes_of n es) ≡ es
unfolding entries_of
entries-bytes n es fs h =
    let k : length (bytes_of n es) / 512 ≡ n = let e = length-bytes es n fs h in omega arith in
    ap (λ (m : ℕ). entries_from m (bytes_of n es)) k ∙ entries_from_lem n es fs h

-- the bytes of 1 to 128 blocks of entries that fit and ascend are a good store
pub good-bytes : (n : ℕ) (es : List Entry) → 1 ≤ n → n ≤ 128 → AllFit es → Sorted es → length es ≤ n → Good (bytes_of n es)
good-bytes n es s m fs ss h =
    let k : length (bytes_of n es) / 512 ≡ n = let e = length-bytes es n fs h in omega arith in
    let q : entries_of (bytes_of n es) ≡ es = entries-bytes n es fs h in
    record {
      some = omega arith;
      most = omega arith;
      fit = subst (λ (x : List Entry). AllFit x) (sym q) fs;
      sorted = subst (λ (x : List Entry). Sorted x) (sym q) ss;
      same = ap₂ bytes_of (sym k) (sym q);
    }

-- a good store has whole blocks
pub good_length : (l : List ℕ) → Good l → length l ≡ blocks_in l * 512
good_length l g = ap length g.same ∙ length-bytes (entries_of l) (blocks_in l) g.fit (room l)

-- the number of blocks and the entries determine every byte
pub same_store : (l m : List ℕ) → Good l → Good m → blocks_in l ≡ blocks_in m → entries_of l ≡ entries_of m → l ≡ m
same_store l m g h n e = g.same ∙ ap₂ bytes_of n e ∙ sym h.same

pub blocks-append : (xs ys : List Entry) → blocks (xs ++ ys) ≡ blocks xs ++ blocks ys
unfolding blocks
blocks-append [] ys = refl
blocks-append (x ∷ xs) ys = ap (λ (l : List ℕ). block x ++ l) (blocks-append xs ys) ∙ sym (append_assoc (block x) (blocks xs) (blocks ys))

-- the first i entries fit, and so do the others
pub fit-take : (i : ℕ) (es : List Entry) → AllFit es → AllFit (take i es)
fit-take zero es fs = none
fit-take (suc i) [] fs = none
fit-take (suc i) (e ∷ es) (more f fs) = more f (fit-take i es fs)

pub fit-drop : (i : ℕ) (es : List Entry) → AllFit es → AllFit (drop i es)
fit-drop zero es fs = fs
fit-drop (suc i) [] fs = none
fit-drop (suc i) (e ∷ es) (more f fs) = fit-drop i es fs

drop-zeros : (k m : ℕ) → drop k (replicate (k + m) 0) ≡ replicate {A = ℕ} m 0
drop-zeros k m = ap (drop k) (sym (replicate-append-replicate k m 0)) ∙ drop_at (replicate k 0) (replicate m 0) k (length-replicate k 0)

-- ---- the bytes of entries, cut at the entry i
module _ (es : List Entry) (n i : ℕ) (fs : AllFit es) (h : i ≤ length es) (k : length es ≤ n) where
  split : bytes_of n es ≡ blocks (take i es) ++ (blocks (drop i es) ++ replicate ((n - length es) * 512) 0)
  unfolding bytes_of
  split =
      ap (λ (l : List ℕ). l ++ replicate ((n - length es) * 512) 0)
      (ap blocks (sym (take-append-drop i es)) ∙ blocks-append (take i es) (drop i es))
      ∙ append_assoc (blocks (take i es)) (blocks (drop i es)) (replicate ((n - length es) * 512) 0)

  front : length (blocks (take i es)) ≡ i * 512
  front = let a = length-blocks (take i es) (fit-take i es fs) in let b = length-take-le i es h in omega arith

  pub take-bytes : take (i * 512) (bytes_of n es) ≡ blocks (take i es)
  take-bytes = ap (take (i * 512)) split ∙ take_at (blocks (take i es)) _ (i * 512) front

  pub drop-bytes : drop (i * 512) (bytes_of n es) ≡ blocks (drop i es) ++ replicate ((n - length es) * 512) 0
  drop-bytes = ap (drop (i * 512)) split ∙ drop_at (blocks (take i es)) _ (i * 512) front

  pub length_rest : length (blocks (drop i es)) ≡ (length es - i) * 512
  length_rest = let a = length-blocks (drop i es) (fit-drop i es fs) in let b = length-drop i es in omega arith

-- the bytes of the entries with some put in between those before i and those from j on
pub bytes-between : (es xs : List Entry) (n i j m : ℕ) → length (take i es ++ (xs ++ drop j es)) ≡ m
    → bytes_of n (take i es ++ (xs ++ drop j es)) ≡ blocks (take i es) ++ (blocks xs ++ (blocks (drop j es) ++ replicate ((n - m) * 512) 0))
unfolding bytes_of
bytes-between es xs n i j m q =
    ap₂ (λ (l : List ℕ) (m : ℕ). l ++ replicate ((n - m) * 512) 0) (blocks-append (take i es) (xs ++ drop j es) ∙ ap (λ (l : List ℕ). blocks (take i es) ++ l) (blocks-append xs (drop j es))) q
    ∙ append_assoc (blocks (take i es)) (blocks xs ++ blocks (drop j es)) _
    ∙ ap (λ (l : List ℕ). blocks (take i es) ++ l) (append_assoc (blocks xs) (blocks (drop j es)) _)

blocks-one : (e : Entry) → blocks (e ∷ []) ≡ block e
unfolding blocks
blocks-one e = append-nil (block e)

module _ (es : List Entry) (n i : ℕ) (fs : AllFit es) (k : length es ≤ n) where
  -- what follows the rest of the entries
  past-rest : (j m : ℕ) → j ≤ length es → drop (j * 512 + (length (blocks (drop j es)) + m)) (bytes_of n es) ≡ drop m (replicate ((n - length es) * 512) 0)
  past-rest j m h =
      sym (drop-drop (length (blocks (drop j es)) + m) (j * 512) (bytes_of n es))
      ∙ ap (drop (length (blocks (drop j es)) + m)) (drop-bytes es n j fs h k)
      ∙ drop-append-add (blocks (drop j es)) (replicate ((n - length es) * 512) 0) m

  pub insert-bytes : (e : Entry) → Fit e → i ≤ length es → length es < n
      → over (over (bytes_of n es) (i * 512 + 512) (take (length es * 512 - i * 512) (drop (i * 512) (bytes_of n es)))) (i * 512) (block e) ≡ bytes_of n (insert_at i e es)
  unfolding over
  insert-bytes e f h room =
      let l : List ℕ = bytes_of n es in
      let b : List ℕ = blocks (drop i es) in
      let z : ℕ = (n - suc (length es)) * 512 in
      let zeros : (n - length es) * 512 ≡ 512 + z = omega arith in
      let lb = length_rest es n i fs h k in
      let le = length-block e (sized f) in
      let ll = length-bytes es n fs k in
      let count : length b ≡ length es * 512 - i * 512 = omega arith in
      let rest : take (length es * 512 - i * 512) (drop (i * 512) l) ≡ b =
      ap (take (length es * 512 - i * 512)) (drop-bytes es n i fs h k) ∙ take_at b _ (length es * 512 - i * 512) count in
      let long : length (insert_at i e es) ≡ suc (length es) = simp (length-append, length-take, length-drop) (omega arith) in
      let place : i * 512 + length (block e ++ b) ≡ i * 512 + (length b + 512) = let q = length-append (block e) b in omega arith in
      let end : drop (i * 512 + length (block e ++ b)) l ≡ replicate z 0 =
      ap (λ (m : ℕ). drop m l) place ∙ past-rest i 512 h ∙ ap (λ (m : ℕ). drop 512 (replicate m 0)) zeros ∙ drop-zeros 512 z in
      ap (λ (x : List ℕ). over (over l (i * 512 + 512) x) (i * 512) (block e)) rest
      ∙ over-before l (i * 512) 512 (block e) b le (omega arith)
      ∙ ap₂ (λ (x y : List ℕ). x ++ ((block e ++ b) ++ y)) (take-bytes es n i fs h k) end
      ∙ ap (λ (x : List ℕ). blocks (take i es) ++ x) (append_assoc (block e) b (replicate z 0))
      ∙ sym (bytes-between es (e ∷ []) n i i (suc (length es)) long ∙ ap (λ (x : List ℕ). blocks (take i es) ++ (x ++ (b ++ replicate z 0))) (blocks-one e))

  pub replace-bytes : (e : Entry) → Fit e → i < length es → over (bytes_of n es) (i * 512) (block e) ≡ bytes_of n (replace_at i e es)
  unfolding over
  replace-bytes e f h =
      let l : List ℕ = bytes_of n es in
      let b : List ℕ = blocks (drop (suc i) es) in
      let le = length-block e (sized f) in
      let long : length (replace_at i e es) ≡ length es = simp (length-append, length-take, length-drop) (omega arith) in
      let place : i * 512 + length (block e) ≡ suc i * 512 = omega arith in
      ap₂ (λ (x y : List ℕ). x ++ (block e ++ y)) (take-bytes es n i fs (omega arith) k)
      (ap (λ (m : ℕ). drop m l) place ∙ drop-bytes es n (suc i) fs h k)
      ∙ sym (bytes-between es (e ∷ []) n i (suc i) (length es) long ∙ ap (λ (x : List ℕ). blocks (take i es) ++ (x ++ (b ++ replicate ((n - length es) * 512) 0))) (blocks-one e))

  -- w: the zeros of a blank block
  remove-with : (w : List ℕ) → length w ≡ 512 → ((z : ℕ) → w ++ replicate z 0 ≡ replicate (512 + z) 0) → i < length es
      → over (over (bytes_of n es) (i * 512) (take (length es * 512 - 512 - i * 512) (drop (i * 512 + 512) (bytes_of n es)))) (length es * 512 - 512) w ≡ bytes_of n (remove_at i es)
  unfolding over blocks
  remove-with w lw jw h =
      let l : List ℕ = bytes_of n es in
      let b : List ℕ = blocks (drop (suc i) es) in
      let z : ℕ = (n - length es) * 512 in
      let lb = length_rest es n (suc i) fs h k in
      let ll = length-bytes es n fs k in
      let next : i * 512 + 512 ≡ suc i * 512 = omega arith in
      let count : length b ≡ length es * 512 - 512 - i * 512 = omega arith in
      let last : length es * 512 - 512 ≡ i * 512 + length b = omega arith in
      let rest : take (length es * 512 - 512 - i * 512) (drop (i * 512 + 512) l) ≡ b =
      ap₂ (λ (m : ℕ) (x : List ℕ). take m x) (sym count) (ap (λ (m : ℕ). drop m l) next ∙ drop-bytes es n (suc i) fs h k)
      ∙ take_at b _ (length b) refl in
      let long : length (remove_at i es) ≡ length es - 1 = simp (length-append, length-take, length-drop) (omega arith) in
      let place : i * 512 + length (b ++ w) ≡ suc i * 512 + (length b + 0) = let q = length-append b w in omega arith in
      let end : drop (i * 512 + length (b ++ w)) l ≡ replicate z 0 = ap (λ (m : ℕ). drop m l) place ∙ past-rest (suc i) 0 h in
      let zeros : 512 + z ≡ (n - (length es - 1)) * 512 = omega arith in
      ap₂ (λ (x : List ℕ) (m : ℕ). over (over l (i * 512) x) m w) rest last
      ∙ over-after l (i * 512) (length b) b w refl (omega arith)
      ∙ ap₂ (λ (x y : List ℕ). x ++ ((b ++ w) ++ y)) (take-bytes es n i fs (omega arith) k) end
      ∙ ap (λ (x : List ℕ). blocks (take i es) ++ x) (append_assoc b w (replicate z 0))
      ∙ ap (λ (x : List ℕ). blocks (take i es) ++ (b ++ x)) (jw z)
      ∙ ap (λ (m : ℕ). blocks (take i es) ++ (b ++ replicate m 0)) zeros
      ∙ sym (bytes-between es [] n i (suc i) (length es - 1) long)

  pub remove-bytes : i < length es
      → over (over (bytes_of n es) (i * 512) (take (length es * 512 - 512 - i * 512) (drop (i * 512 + 512) (bytes_of n es)))) (length es * 512 - 512) (replicate 512 0) ≡ bytes_of n (remove_at i es)
  remove-bytes h = remove-with (replicate 512 0) (length-replicate {A = ℕ} 512 0) (λ z. replicate-append-replicate 512 z 0) h

-- ---- the first byte of the block at a place tells whether it is used
module _ (l : List ℕ) (g : Good l) (i : ℕ) where
  at_place : get_or l (i * 512) 0 ≡ get_or (drop (i * 512) (bytes_of (blocks_in l) (entries_of l))) 0 0
  at_place =
      let z : i * 512 ≡ i * 512 + 0 = omega arith in
      ap₂ (λ (x : List ℕ) (m : ℕ). get_or x m 0) g.same z ∙ sym (get_or-drop (i * 512) (bytes_of (blocks_in l) (entries_of l)) 0 0)

  pub used-at : i < length (entries_of l) → get_or l (i * 512) 0 ≡ 1
  unfolding blocks
  used-at h =
      let es : List Entry = entries_of l in
      let x : Entry = get_or es i no_entry in
      at_place
      ∙ ap (λ (y : List ℕ). get_or y 0 0)
      (drop-bytes es (blocks_in l) i g.fit (omega arith) (room l)
      ∙ ap (λ (ys : List Entry). blocks ys ++ replicate ((blocks_in l - length es) * 512) 0) (drop-cons es i no_entry h)
      ∙ append_assoc (block x) (blocks (drop (suc i) es)) _)
      ∙ block-first x _

  pub blank-at : length (entries_of l) ≤ i → i < blocks_in l → get_or l (i * 512) 0 ≡ 0
  unfolding bytes_of
  blank-at h k =
      let es : List Entry = entries_of l in
      let n : ℕ = blocks_in l in
      let b = length-blocks es g.fit in
      let p : i * 512 ≡ length (blocks es) + (i * 512 - length es * 512) = omega arith in
      ap₂ (λ (x : List ℕ) (m : ℕ). get_or x m 0) g.same p
      ∙ get_or-append-add (blocks es) (replicate ((n - length es) * 512) 0) (i * 512 - length es * 512) 0
      ∙ get_or-replicate ((n - length es) * 512) (i * 512 - length es * 512) 0 0 (omega arith)
