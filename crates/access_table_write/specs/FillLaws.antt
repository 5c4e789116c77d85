-- Zeros, into which parts are written at ascending places.
use Rattle.std.specs.Prelude.{◌≡◌, List, [], ◌∷◌, ◌++◌, ℕ, suc, ◌+◌, ◌-◌, ◌≤◌, length, take, drop, replicate, set}
use Rattle.std.proofs.Common.{sym, ap, ap₂, ◌∙◌, append_assoc, arith, length-append, take_at, drop_at, drop-drop}
use Rattle.std.proofs.lemmas.List.{length-replicate, replicate-append-replicate}
use Rattle.std.proofs.Math.Seq.{take-append-add, drop-append-add}
use Rattle.base_definitions.specs.Lists.{fill}
use Rattle.access_record_bytes.specs.Wrote.{put}

zeros-split : (n a : ℕ) → a ≤ n → replicate {A = ℕ} n 0 ≡ replicate a 0 ++ replicate (n - a) 0
zeros-split n a h =
    let e : a + (n - a) ≡ n = omega arith in
    sym (replicate-append-replicate a (n - a) 0 ∙ ap (λ (k : ℕ). replicate k 0) e)

gap_length : (a : ℕ) (bs xs : List ℕ) → length bs ≤ a → length (bs ++ (replicate (a - length bs) 0 ++ xs)) ≡ a + length xs
gap_length a bs xs h = simp (length-append, length-replicate) (omega arith)

gap-front : (a : ℕ) (bs : List ℕ) → length bs ≤ a → length (bs ++ replicate (a - length bs) 0) ≡ a
gap-front a bs h = simp (length-append, length-replicate) (omega arith)

zeros-cut : (n a b k : ℕ) → b ≤ a → a + k ≤ n → replicate {A = ℕ} (n - b) 0 ≡ replicate (a - b) 0 ++ (replicate k 0 ++ replicate (n - (a + k)) 0)
zeros-cut n a b k h l =
    let n1 : n - b - (a - b) ≡ n - a = omega arith in
    let n2 : n - a - k ≡ n - (a + k) = omega arith in
    zeros-split (n - b) (a - b) (sub-le n a b h l)
    ∙ ap (λ (z : List ℕ). replicate (a - b) 0 ++ z)
    (ap (λ (m : ℕ). replicate m 0) n1 ∙ zeros-split (n - a) k (sub-le2 n a k l) ∙ ap (λ (m : ℕ). replicate k 0 ++ replicate m 0) n2)
  where
    sub-le : (n a b : ℕ) → b ≤ a → a + k ≤ n → a - b ≤ n - b
    sub-le n a b h l = omega arith

    sub-le2 : (n a k : ℕ) → a + k ≤ n → k ≤ n - a
    sub-le2 n a k l = omega arith

-- a part written past what was written
fill-put : (n a : ℕ) (bs xs : List ℕ) → length bs ≤ a → a + length xs ≤ n
    → put (fill n bs) a xs ≡ fill n (bs ++ (replicate (a - length bs) 0 ++ xs))
unfolding put fill
fill-put n a bs xs h k =
    let b = length bs in
    let gap : List ℕ = replicate (a - b) 0 in
    let over : List ℕ = replicate (length xs) 0 in
    let rest : List ℕ = replicate (n - (a + length xs)) 0 in
    let n3 : n - (a + length xs) ≡ n - length (bs ++ (gap ++ xs)) = ap (λ (m : ℕ). n - m) (sym (gap_length a bs xs h)) in
    let cut : replicate (n - b) 0 ≡ gap ++ (over ++ rest) = zeros-cut n a b (length xs) h k in
    let front : length (bs ++ gap) ≡ a = gap-front a bs h in
    let whole : bs ++ replicate (n - b) 0 ≡ (bs ++ gap) ++ (over ++ rest) =
    ap (λ (z : List ℕ). bs ++ z) cut ∙ sym (append_assoc bs gap (over ++ rest)) in
    ap₂ (λ (x y : List ℕ). x ++ (xs ++ y))
    (ap (take a) whole ∙ take_at (bs ++ gap) (over ++ rest) a front)
    (ap (drop (a + length xs)) whole ∙ sym (drop-drop (length xs) a ((bs ++ gap) ++ (over ++ rest)))
    ∙ ap (drop (length xs)) (drop_at (bs ++ gap) (over ++ rest) a front) ∙ drop_at over rest (length xs) (length-replicate (length xs) 0))
    ∙ sym (append_assoc (bs ++ gap) xs rest) ∙ ap (λ (z : List ℕ). z ++ rest) (append_assoc bs gap xs)
    ∙ ap (λ (m : ℕ). (bs ++ (gap ++ xs)) ++ replicate m 0) n3

-- with a part in front
pub fill-past : (m n : ℕ) (h xs : List ℕ) → m ≡ length h + n → fill m (h ++ xs) ≡ h ++ fill n xs
unfolding fill
fill-past m n h xs e =
    let k : m - length (h ++ xs) ≡ n - length xs = simp length-append (omega arith) in
    ap (λ (z : ℕ). (h ++ xs) ++ replicate z 0) k ∙ append_assoc h xs (replicate (n - length xs) 0)

-- one more place behind the places that stand
pub fill_more : (n a : ℕ) (bs xs : List ℕ) → a ≡ length bs → a + length xs ≤ n → put (fill n bs) a xs ≡ fill n (bs ++ xs)
fill_more n a bs xs e k =
    let z : a - length bs ≡ 0 = omega arith in
    fill-put n a bs xs (omega arith) k ∙ ap (λ (m : ℕ). fill n (bs ++ (replicate m 0 ++ xs))) z

-- what is full of zeros behind, filled further
pub fill-zeros : (n k : ℕ) (xs : List ℕ) → length xs + k ≤ n → fill n (xs ++ replicate k 0) ≡ fill n xs
unfolding fill
fill-zeros n k xs h =
    let e : n - length (xs ++ replicate k 0) ≡ n - length xs - k = simp (length-append, length-replicate) (omega arith) in
    let cut = zeros-split (n - length xs) k (room n k (length xs) h) in
    append_assoc xs (replicate k 0) (replicate (n - length (xs ++ replicate k 0)) 0)
    ∙ ap (λ (m : ℕ). xs ++ (replicate k 0 ++ replicate m 0)) e
    ∙ ap (λ (z : List ℕ). xs ++ z) (sym cut)
  where
    room : (n k m : ℕ) → m + k ≤ n → k ≤ n - m
    room n k m h = omega arith

pub fill-fill : (m n : ℕ) (xs : List ℕ) → length xs ≤ n → n ≤ m → fill m (fill n xs) ≡ fill m xs
unfolding fill
fill-fill m n xs h k = fill-zeros m (n - length xs) xs (omega arith)

-- ---- past a part, a write is one into the rest
pub put-past : (p l : List ℕ) (b a : ℕ) (xs : List ℕ) → b ≡ length p + a → put (p ++ l) b xs ≡ p ++ put l a xs
unfolding put
put-past p l b a xs e =
    let end : b + length xs ≡ length p + (a + length xs) = omega arith in
    ap₂ (λ (x y : List ℕ). x ++ (xs ++ y))
    (ap (λ (k : ℕ). take k (p ++ l)) e ∙ take-append-add p l a)
    (ap (λ (k : ℕ). drop k (p ++ l)) end ∙ drop-append-add p l (a + length xs))
    ∙ append_assoc p (take a l) (xs ++ drop (a + length xs) l)

set-add : (p l : List ℕ) (a x : ℕ) → set (p ++ l) (length p + a) x ≡ p ++ set l a x
set-add [] l a x = let e : 0 + a ≡ a = omega arith in ap (λ (k : ℕ). set l k x) e
set-add (y ∷ p) l a x =
    let e : suc (length p) + a ≡ suc (length p + a) = omega arith in
    ap (λ (k : ℕ). set (y ∷ (p ++ l)) k x) e ∙ ap (λ (r : List ℕ). y ∷ r) (set-add p l a x)

pub set_past : (p l : List ℕ) (b a x : ℕ) → b ≡ length p + a → set (p ++ l) b x ≡ p ++ set l a x
set_past p l b a x e = ap (λ (k : ℕ). set (p ++ l) k x) e ∙ set-add p l a x
