-- The relation that runs of writes compose by.
use Rattle.std.specs.Prelude.{◌≡◌, List, ◌++◌, ℕ, ◌+◌, ◌-◌, ◌≤◌, length, take, drop}
use Rattle.std.proofs.Common.{sym, ap, ◌∙◌, append_assoc, append-nil, arith, length-append, length-take, length-drop, drop_of_length-le, take_at, drop_at, drop-drop}
use borrow.Rule.Slice.PartMut.{put_mid}
use Rattle.access_record_bytes.specs.Wrote.{put, Wrote}

length-put : (l : List ℕ) (a : ℕ) (bs : List ℕ) → a + length bs ≤ length l → length (put l a bs) ≡ length l
unfolding put
length-put l a bs h = simp (length-append, length-take, length-drop) (omega arith)

infixl 40 ◌then◌
-- a run after a run is one run
put-put : (l : List ℕ) (a : ℕ) (xs ys : List ℕ) → a + length xs + length ys ≤ length l
    → put (put l a xs) (a + length xs) ys ≡ put l a (xs ++ ys)
unfolding put
put-put l a xs ys h =
    let front : length (take a l ++ xs) ≡ a + length xs = simp (length-append, length-take) (omega arith) in
    let whole : take a l ++ (xs ++ drop (a + length xs) l) ≡ (take a l ++ xs) ++ drop (a + length xs) l =
    sym (append_assoc (take a l) xs (drop (a + length xs) l)) in
    let r : List ℕ = drop (a + length xs) l in
    let sum : a + length xs + length ys ≡ a + length (xs ++ ys) = omega (arith, length-append xs ys) in
    ap (λ (w : List ℕ). take (a + length xs) w ++ (ys ++ drop (a + length xs + length ys) w)) whole
    ∙ ap (λ (w : List ℕ). w ++ (ys ++ drop (a + length xs + length ys) ((take a l ++ xs) ++ r))) (take_at (take a l ++ xs) r (a + length xs) front)
    ∙ ap (λ (w : List ℕ). (take a l ++ xs) ++ (ys ++ w))
    (sym (drop-drop (length ys) (a + length xs) ((take a l ++ xs) ++ r))
    ∙ ap (drop (length ys)) (drop_at (take a l ++ xs) r (a + length xs) front)
    ∙ drop-drop (length ys) (a + length xs) l
    ∙ ap (λ (k : ℕ). drop k l) sum)
    ∙ append_assoc (take a l) xs (ys ++ drop (a + length (xs ++ ys)) l)
    ∙ ap (λ (w : List ℕ). take a l ++ w) (sym (append_assoc xs ys (drop (a + length (xs ++ ys)) l)))

wrote : (a b : ℕ) (bs before after : List ℕ) → b ≡ a + length bs → b ≤ length before → after ≡ put before a bs → Wrote a b bs before after
wrote a b bs before after n r s =
    record { next = n; room = r; long = ap length s ∙ length-put before a bs (omega arith); same = s }

-- runs compose, with no arithmetic left to the user
pub ◌then◌ : {a b c : ℕ} {xs ys l m n : List ℕ} → Wrote a b xs l m → Wrote b c ys m n → Wrote a c (xs ++ ys) l n
◌then◌ {a} {b} {c} {xs} {ys} {l} {m} {n} p q =
    let pn = p.next in
    let qn = q.next in
    let pl = p.long in
    let qr = q.room in
    wrote a c (xs ++ ys) l n
    (omega (arith, length-append xs ys))
    (omega arith)
    (q.same ∙ ap (λ (w : List ℕ). put w b ys) p.same ∙ ap (λ (k : ℕ). put (put l a xs) k ys) pn ∙ put-put l a xs ys (omega arith))

-- the same bytes under another name
pub renamed : {a b : ℕ} {xs ys l m : List ℕ} → xs ≡ ys → Wrote a b xs l m → Wrote a b ys l m
renamed e w = rw e at w

-- n bytes in place of the part from a on
pub wrote-part : (l : List ℕ) (a n : ℕ) {ys bs : List ℕ} → ys ≡ bs → length bs ≡ n → a + n ≤ length l → Wrote a (a + n) bs l (put_mid a (a + n - a) l ys)
unfolding put
wrote-part l a n {ys} {bs} e m h =
    let k : a + n - a ≡ length bs = omega arith in
    wrote a (a + n) bs l (put_mid a (a + n - a) l ys) (omega arith) h
    (ap (λ (xs : List ℕ). put_mid a (a + n - a) l xs) e
    ∙ ap (λ (j : ℕ). put_mid a j l bs) k
    ∙ ap (λ (r : List ℕ). take a l ++ (bs ++ r)) (drop-drop (length bs) a l))

-- a run over the whole buffer
pub wrote-whole : {b : ℕ} {bs l m : List ℕ} → Wrote 0 b bs l m → length bs ≡ length l → m ≡ bs
unfolding put
wrote-whole {b} {bs} {l} {m} w e =
    let z : length l ≤ 0 + length bs = omega arith in
    w.same ∙ ap (λ (x : List ℕ). bs ++ x) (drop_of_length-le l z) ∙ append-nil bs
