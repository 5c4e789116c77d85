-- Bytes written over others, and the laws by which loops of stores write them.
use Rattle.std.specs.Prelude.{◌≡◌, List, [], ◌∷◌, ◌++◌, ℕ, suc, ◌+◌, ◌-◌, ◌≤◌, ◌<◌, length, take, drop, set, get_or}
use Rattle.std.proofs.Common.{sym, ap, ap₂, ◌∙◌, append_assoc, append-nil, arith, length-append, length-take, length-drop, take-append-drop, drop_of_length-le, take-suc, length-take-le, take_at, drop_at, drop-drop, drop-cons, take-take, get_or-take, get_or-drop, get_or-append-add}
use Rattle.std.proofs.lemmas.List.{set_at, take-append-le}
use Rattle.std.proofs.Math.ListN.{get_or-append}
use borrow.Rule.Slice.PartMut.{put_mid}
use lib.Seq.{paste}
use Rattle.store_block.specs.Over.{over}

pub length_over : (l : List ℕ) (a : ℕ) (bs : List ℕ) → a + length bs ≤ length l → length (over l a bs) ≡ length l
unfolding over
length_over l a bs h = simp (length-append, length-take, length-drop) (omega arith)

pub over_none : (l : List ℕ) (a : ℕ) → over l a [] ≡ l
unfolding over
over_none l a = let z : a + 0 ≡ a = omega arith in ap (λ (k : ℕ). take a l ++ drop k l) z ∙ take-append-drop a l

-- one byte more behind those that were written
pub over-more : (l : List ℕ) (a i v : ℕ) (xs : List ℕ) → length xs ≡ i → a + i < length l → set (over l a xs) (a + i) v ≡ over l a (xs ++ (v ∷ []))
unfolding over
over-more l a i v xs h k =
    let rest : List ℕ = drop (suc (a + length xs)) l in
    let front : length (take a l ++ xs) ≡ a + i = simp (length-append, length-take) (omega arith) in
    let cut : drop (a + length xs) l ≡ get_or l (a + length xs) 0 ∷ rest = drop-cons l (a + length xs) 0 (omega arith) in
    let end : suc (a + length xs) ≡ a + length (xs ++ (v ∷ [])) = simp length-append (omega arith) in
    ap (λ (x : List ℕ). set (take a l ++ (xs ++ x)) (a + i) v) cut
    ∙ ap (λ (x : List ℕ). set x (a + i) v) (sym (append_assoc (take a l) xs _))
    ∙ set_at (take a l ++ xs) (get_or l (a + length xs) 0) rest v (a + i) front
    ∙ append_assoc (take a l) xs (v ∷ rest)
    ∙ ap (λ (x : List ℕ). take a l ++ x) (sym (append_assoc xs (v ∷ []) rest))
    ∙ ap (λ (n : ℕ). take a l ++ ((xs ++ (v ∷ [])) ++ drop n l)) end

-- one byte more in front of them
pub over-front : (l : List ℕ) (a v : ℕ) (xs : List ℕ) → a < length l → set (over l (suc a) xs) a v ≡ over l a (v ∷ xs)
unfolding over
over-front l a v xs h =
    let cut : take (suc a) l ≡ take a l ++ (get_or l a 0 ∷ []) = take-suc l a 0 h in
    let end : suc a + length xs ≡ a + suc (length xs) = omega arith in
    ap (λ (x : List ℕ). set (x ++ (xs ++ drop (suc a + length xs) l)) a v) cut
    ∙ ap (λ (x : List ℕ). set x a v) (append_assoc (take a l) (get_or l a 0 ∷ []) _)
    ∙ set_at (take a l) (get_or l a 0) (xs ++ drop (suc a + length xs) l) v a (length-take-le a l (omega arith))
    ∙ ap (λ (n : ℕ). take a l ++ (v ∷ (xs ++ drop n l))) end

-- a part of a slice written, and a part moved
pub over-part : (l : List ℕ) (a k : ℕ) (xs ys : List ℕ) → ys ≡ xs → k ≡ length xs → put_mid a k l ys ≡ over l a xs
unfolding over
over-part l a k xs ys e n = ap₂ (λ (y z : List ℕ). take a l ++ (y ++ z)) e (drop-drop k a l ∙ ap (λ (m : ℕ). drop (a + m) l) n)

pub over-paste : (l : List ℕ) (a n : ℕ) (xs : List ℕ) → n ≤ length xs → paste l a xs n ≡ over l a (take n xs)
unfolding over
over-paste l a n xs h =
    append_assoc (take a l) (take n xs) (drop (a + n) l)
    ∙ ap (λ (m : ℕ). take a l ++ (take n xs ++ drop (a + m) l)) (sym (length-take-le n xs h))

-- bytes written behind others, and in front of others, are one run
pub over-after : (l : List ℕ) (a m : ℕ) (xs ys : List ℕ) → length xs ≡ m → a + m + length ys ≤ length l → over (over l a xs) (a + m) ys ≡ over l a (xs ++ ys)
unfolding over
over-after l a m xs ys n h =
    let front : length (take a l ++ xs) ≡ a + m = simp (length-append, length-take) (omega arith) in
    let r : List ℕ = drop (a + length xs) l in
    let sum : a + length xs + length ys ≡ a + length (xs ++ ys) = omega (arith, length-append xs ys) in
    ap (λ (w : List ℕ). take (a + m) w ++ (ys ++ drop (a + m + length ys) w)) (sym (append_assoc (take a l) xs r))
    ∙ ap₂ (λ (v w : List ℕ). v ++ (ys ++ w)) (take_at (take a l ++ xs) r (a + m) front)
    (sym (drop-drop (length ys) (a + m) ((take a l ++ xs) ++ r))
    ∙ ap (drop (length ys)) (drop_at (take a l ++ xs) r (a + m) front)
    ∙ drop-drop (length ys) (a + length xs) l
    ∙ ap (λ (k : ℕ). drop k l) sum)
    ∙ append_assoc (take a l) xs (ys ++ drop (a + length (xs ++ ys)) l)
    ∙ ap (λ (w : List ℕ). take a l ++ w) (sym (append_assoc xs ys (drop (a + length (xs ++ ys)) l)))

pub over-before : (l : List ℕ) (a m : ℕ) (xs ys : List ℕ) → length xs ≡ m → a + m ≤ length l → over (over l (a + m) ys) a xs ≡ over l a (xs ++ ys)
unfolding over
over-before l a m xs ys n h =
    let r : List ℕ = ys ++ drop (a + m + length ys) l in
    let front : length (take (a + m) l) ≡ a + m = length-take-le (a + m) l h in
    let sum : a + m + length ys ≡ a + length (xs ++ ys) = omega (arith, length-append xs ys) in
    let place : a + length xs ≡ a + m = omega arith in
    ap₂ (λ (v w : List ℕ). v ++ (xs ++ w))
    (take-append-le a (take (a + m) l) r (omega arith) ∙ take-take a (a + m) l (omega arith))
    (ap (λ (k : ℕ). drop k (take (a + m) l ++ r)) place ∙ drop_at (take (a + m) l) r (a + m) front)
    ∙ ap (λ (k : ℕ). take a l ++ (xs ++ (ys ++ drop k l))) sum
    ∙ ap (λ (w : List ℕ). take a l ++ w) (sym (append_assoc xs ys (drop (a + length (xs ++ ys)) l)))

-- what was not written over
pub over-low : (l : List ℕ) (a p : ℕ) (xs : List ℕ) → a ≤ length l → p < a → get_or (over l a xs) p 0 ≡ get_or l p 0
unfolding over
over-low l a p xs h k =
    get_or-append (take a l) (xs ++ drop (a + length xs) l) 0 p (let q = length-take-le a l h in omega arith) ∙ get_or-take a l p 0 k

pub over-high : (l : List ℕ) (a p : ℕ) (xs : List ℕ) → a ≤ length l → a + length xs ≤ p → get_or (over l a xs) p 0 ≡ get_or l p 0
unfolding over
over-high l a p xs h k =
    let n : length (take a l ++ xs) ≡ a + length xs = simp (length-append, length-take) (omega arith) in
    let m : p ≡ length (take a l ++ xs) + (p - (a + length xs)) = omega arith in
    let z : a + length xs + (p - (a + length xs)) ≡ p = omega arith in
    ap₂ (λ (x : List ℕ) (y : ℕ). get_or x y 0) (sym (append_assoc (take a l) xs (drop (a + length xs) l))) m
    ∙ get_or-append-add (take a l ++ xs) (drop (a + length xs) l) (p - (a + length xs)) 0
    ∙ get_or-drop (a + length xs) l (p - (a + length xs)) 0
    ∙ ap (λ (y : ℕ). get_or l y 0) z

-- as many bytes over all
pub over-all : (l xs : List ℕ) → length xs ≡ length l → over l 0 xs ≡ xs
unfolding over
over-all l xs n = ap (λ (x : List ℕ). xs ++ x) (drop_of_length-le l {i = 0 + length xs} (omega arith)) ∙ append-nil xs
