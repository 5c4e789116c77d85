-- frame_of in document 01's words: MORE is given exactly to a proper start of some frame, and what is taken is one whole frame.
use Rattle.std.specs.Prelude.{ℕ, zero, suc, ◌+◌, ◌*◌, ◌-◌, ◌/◌, ◌%◌, ◌≤◌, ◌<◌, ◌≡◌, refl, ◌⊎◌, List, [], ◌∷◌, ◌++◌, Bool, true, false, cond, length, take, drop, get_or, leb, eqb}
use Rattle.std.proofs.Common.{arith, sym, ap, ◌∙◌, subst, inl, inr, append_assoc, append-nil, length-append, length-take, length-drop, take-append-drop, drop_of_length-le, drop-drop, le-leb, eq-eqb, eqb-true, leb-true, leb-false}
use Rattle.std.proofs.lemmas.Bool.{lt-leb}
use Rattle.base_definitions.specs.BigEndian.{be32}
use Rattle.protocol.specs.Frame.{frame, num4, Framing, more, closes, whole, fits, frame_of, Fits}
use Rattle.protocol.proofs.FrameLaws.{num-be32}
use Rattle.protocol.specs.Start.{Bytes, Start}

clash : {A : Type 0} → ◌≡◌ {A = ℕ} 0 1 → A
clash e = absurd (omega arith)

zeros : ℕ → List ℕ
zeros zero = []
zeros (suc n) = 0 ∷ zeros n

length-zeros : (n : ℕ) → length (zeros n) ≡ n
unfolding zeros
length-zeros zero = refl
length-zeros (suc n) = ap suc (length-zeros n)

get-zeros : (n i : ℕ) → get_or (zeros n) i 0 ≡ 0
unfolding zeros
get-zeros zero i = refl
get-zeros (suc n) zero = refl
get-zeros (suc n) (suc i) = get-zeros n i

get-pad : (xs : List ℕ) (n i : ℕ) → get_or (xs ++ zeros n) i 0 ≡ get_or xs i 0
get-pad [] n i = get-zeros n i
get-pad (x ∷ xs) n zero = refl
get-pad (x ∷ xs) n (suc i) = get-pad xs n i

nine : (s : List ℕ) → 9 ≤ length s
    → s ≡ get_or s 0 0 ∷ get_or s 1 0 ∷ get_or s 2 0 ∷ get_or s 3 0 ∷ get_or s 4 0 ∷ get_or s 5 0 ∷ get_or s 6 0 ∷ get_or s 7 0 ∷ get_or s 8 0 ∷ drop 9 s
nine [] h = absurd (omega arith)
nine (a ∷ []) h = absurd (omega arith)
nine (a ∷ b ∷ []) h = absurd (omega arith)
nine (a ∷ b ∷ c ∷ []) h = absurd (omega arith)
nine (a ∷ b ∷ c ∷ d ∷ []) h = absurd (omega arith)
nine (a ∷ b ∷ c ∷ d ∷ e ∷ []) h = absurd (omega arith)
nine (a ∷ b ∷ c ∷ d ∷ e ∷ f ∷ []) h = absurd (omega arith)
nine (a ∷ b ∷ c ∷ d ∷ e ∷ f ∷ g ∷ []) h = absurd (omega arith)
nine (a ∷ b ∷ c ∷ d ∷ e ∷ f ∷ g ∷ i ∷ []) h = absurd (omega arith)
nine (a ∷ b ∷ c ∷ d ∷ e ∷ f ∷ g ∷ i ∷ j ∷ r) h = refl

be32-num : (a b c d n : ℕ) → a < 256 → b < 256 → c < 256 → d < 256 → a * 16777216 + b * 65536 + c * 256 + d ≡ n → be32 n ≡ a ∷ b ∷ c ∷ d ∷ []
unfolding be32
be32-num a b c d n ha hb hc hd e =
    let p : n / 16777216 ≡ a = omega arith in
    let q : n / 65536 % 256 ≡ b = omega arith in
    let r : n / 256 % 256 ≡ c = omega arith in
    let s : n % 256 ≡ d = omega arith in
    rw (p, q, r, s) refl

parts : (s : List ℕ) (a b : ℕ) → take a (drop 9 s) ++ (take b (drop (9 + a) s) ++ drop (9 + a + b) s) ≡ drop 9 s
parts s a b =
    ap (λ l. take a (drop 9 s) ++ l) (ap (λ l. take b (drop (9 + a) s) ++ l) (sym (drop-drop b (9 + a) s)) ∙ take-append-drop b (drop (9 + a) s) ∙ sym (drop-drop a 9 s))
    ∙ take-append-drop a (drop 9 s)

-- a list that holds a whole frame
holds : (s : List ℕ) (a b : ℕ) → Bytes s → get_or s 0 0 ≡ 70 → num4 s 1 ≡ a → num4 s 5 ≡ b → 9 + a + b ≤ length s
    → s ≡ frame (take a (drop 9 s)) (take b (drop (9 + a) s)) ++ drop (9 + a + b) s
unfolding frame be32
holds s a b h z p q l =
    let la : length (take a (drop 9 s)) ≡ a = simp (length-take, length-drop) (omega arith) in
    let lb : length (take b (drop (9 + a) s)) ≡ b = simp (length-take, length-drop) (omega arith) in
    let ba = be32-num (get_or s 1 0) (get_or s 2 0) (get_or s 3 0) (get_or s 4 0) a (h 1) (h 2) (h 3) (h 4) p in
    let bb = be32-num (get_or s 5 0) (get_or s 6 0) (get_or s 7 0) (get_or s 8 0) b (h 5) (h 6) (h 7) (h 8) q in
    nine s (omega arith)
    ∙ ap (λ x. x ∷ get_or s 1 0 ∷ get_or s 2 0 ∷ get_or s 3 0 ∷ get_or s 4 0 ∷ get_or s 5 0 ∷ get_or s 6 0 ∷ get_or s 7 0 ∷ get_or s 8 0 ∷ drop 9 s) z
    ∙ ap (λ l. 70 ∷ (l ++ (get_or s 5 0 ∷ get_or s 6 0 ∷ get_or s 7 0 ∷ get_or s 8 0 ∷ drop 9 s))) (sym ba)
    ∙ ap (λ l. 70 ∷ (be32 a ++ (l ++ drop 9 s))) (sym bb)
    ∙ ap (λ l. 70 ∷ (be32 a ++ (be32 b ++ l))) (sym (parts s a b) ∙ sym (append_assoc (take a (drop 9 s)) (take b (drop (9 + a) s)) (drop (9 + a + b) s)))
    ∙ ap (λ n. 70 ∷ (be32 n ++ (be32 b ++ ((take a (drop 9 s) ++ take b (drop (9 + a) s)) ++ drop (9 + a + b) s)))) (sym la)
    ∙ ap (λ n. 70 ∷ (be32 (length (take a (drop 9 s))) ++ (be32 n ++ ((take a (drop 9 s) ++ take b (drop (9 + a) s)) ++ drop (9 + a + b) s)))) (sym lb)

record Right (s : List ℕ) : Type 0 where
  first : get_or s 0 0 ≡ 70
  message : num4 s 1 ≤ 8192
  value : num4 s 5 ≤ 1024

fits-right : (s : List ℕ) → fits s ≡ true → Right s
fits-right s e = go (eqb (get_or s 0 0) 70) (leb (num4 s 1) 8192) (leb (num4 s 5) 1024) refl refl refl e
  where
    go : (p q r : Bool) → eqb (get_or s 0 0) 70 ≡ p → leb (num4 s 1) 8192 ≡ q → leb (num4 s 5) 1024 ≡ r → cond p (cond q r false) false ≡ true → Right s
    go false q r a b c e = clash (cc)
    go true false r a b c e = clash (cc)
    go true true false a b c e = clash (cc)
    go true true true a b c e = record { first = eqb-true _ _ a; message = leb-true _ _ b; value = leb-true _ _ c }

right-fits : (s : List ℕ) → Right s → fits s ≡ true
right-fits s h = rw (eq-eqb (get_or s 0 0) 70 h.first, le-leb (num4 s 1) 8192 h.message, le-leb (num4 s 5) 1024 h.value) refl

-- which of the three it is
record Whole (s : List ℕ) (r : Framing) : Type 0 where
  right : Right s
  long : 9 + num4 s 1 + num4 s 5 ≤ length s
  is : r ≡ whole (take (num4 s 1) (drop 9 s)) (take (num4 s 5) (drop (9 + num4 s 1) s)) (drop (9 + num4 s 1 + num4 s 5) s)

record Short (s : List ℕ) (r : Framing) : Type 0 where
  right : Right s
  short : length s < 9 + num4 s 1 + num4 s 5
  is : r ≡ more

which : (b : ℕ) (r : List ℕ) → Whole (b ∷ r) (frame_of (b ∷ r)) ⊎ (Short (b ∷ r) (frame_of (b ∷ r)) ⊎ (frame_of (b ∷ r) ≡ closes))
unfolding frame_of
which b r = go (fits (b ∷ r)) (leb (9 + num4 (b ∷ r) 1 + num4 (b ∷ r) 5) (length (b ∷ r))) refl refl
  where
    go : (p q : Bool) → fits (b ∷ r) ≡ p → leb (9 + num4 (b ∷ r) 1 + num4 (b ∷ r) 5) (length (b ∷ r)) ≡ q
        → Whole (b ∷ r) (frame_of (b ∷ r)) ⊎ (Short (b ∷ r) (frame_of (b ∷ r)) ⊎ (frame_of (b ∷ r) ≡ closes))
    go false q e f = inr (inr (rw e refl))
    go true false e f = inr (inl (record { right = fits-right (b ∷ r) e; short = leb-false _ _ f; is = rw (e, f) refl }))
    go true true e f = inl (record { right = fits-right (b ∷ r) e; long = leb-true _ _ f; is = rw (e, f) refl })

take_within : (n : ℕ) (l : List ℕ) (most : ℕ) → n ≤ most → length (take n l) ≤ most
take_within n l most h = simp length-take (omega arith)

-- what is taken is one whole frame within the limits
pub whole-frame : (xs : List ℕ) {m v rest : List ℕ} → Bytes xs → frame_of xs ≡ whole m v rest → (xs ≡ frame m v ++ rest) × Fits m v
unfolding frame_of
whole-frame [] h e = clash (cc)
whole-frame (b ∷ r) {m} {v} {rest} h e = go (which b r)
  where
    go : Whole (b ∷ r) (frame_of (b ∷ r)) ⊎ (Short (b ∷ r) (frame_of (b ∷ r)) ⊎ (frame_of (b ∷ r) ≡ closes)) → (b ∷ r ≡ frame m v ++ rest) × Fits m v
    go (inr (inr q)) = clash (cc)
    go (inr (inl q)) = let i = q.is in clash (cc)
    go (inl q) =
        let i = q.is in
        let hm : take (num4 (b ∷ r) 1) (drop 9 (b ∷ r)) ≡ m = cc in
        let hv : take (num4 (b ∷ r) 5) (drop (9 + num4 (b ∷ r) 1) (b ∷ r)) ≡ v = cc in
        let hr : drop (9 + num4 (b ∷ r) 1 + num4 (b ∷ r) 5) (b ∷ r) ≡ rest = cc in
        let f = holds (b ∷ r) (num4 (b ∷ r) 1) (num4 (b ∷ r) 5) h q.right.first refl refl q.long in (
          rw (hm, hv, hr) at f,
          record {
            message = subst (λ m. length m ≤ 8192) hm (take_within (num4 (b ∷ r) 1) (drop 9 (b ∷ r)) 8192 q.right.message);
            value = subst (λ v. length v ≤ 1024) hv (take_within (num4 (b ∷ r) 5) (drop (9 + num4 (b ∷ r) 1) (b ∷ r)) 1024 q.right.value);
          },
        )

filled : (s : List ℕ) → Bytes s → Right s → length s < 9 + num4 s 1 + num4 s 5 → Start s
filled s h w l =
    let n = 9 + num4 s 1 + num4 s 5 - length s in
    let y = s ++ zeros n in
    let g : (i : ℕ) → get_or y i 0 ≡ get_or s i 0 = λ i. get-pad s n i in
    let ly : length y ≡ 9 + num4 s 1 + num4 s 5 = omega (arith, length-append s (zeros n), length-zeros n) in
    let p : num4 y 1 ≡ num4 s 1 = omega (arith, g 1, g 2, g 3, g 4) in
    let q : num4 y 5 ≡ num4 s 5 = omega (arith, g 5, g 6, g 7, g 8) in
    let f = holds y (num4 s 1) (num4 s 5) (λ i. omega (arith, g i, h i)) (g 0 ∙ w.first) p q (omega arith) in
    record {
      message = take (num4 s 1) (drop 9 y);
      value = take (num4 s 5) (drop (9 + num4 s 1) y);
      after = zeros n;
      sizes = record { message = take_within (num4 s 1) (drop 9 y) 8192 w.message; value = take_within (num4 s 5) (drop (9 + num4 s 1) y) 1024 w.value };
      proper = omega (arith, length-zeros n);
      is = f ∙ ap (λ l. frame (take (num4 s 1) (drop 9 y)) (take (num4 s 5) (drop (9 + num4 s 1) y)) ++ l) (drop_of_length-le y {i = 9 + num4 s 1 + num4 s 5} (omega arith)) ∙ append-nil _;
    }

-- MORE is given to a proper start of some frame, and only to that
pub more-start : (xs : List ℕ) → Bytes xs → frame_of xs ≡ more → Start xs
unfolding frame_of frame be32
more-start [] h e = record { message = []; value = []; after = frame [] []; sizes = record { message = omega arith; value = omega arith }; proper = omega arith; is = refl }
more-start (b ∷ r) h e = go (which b r)
  where
    go : Whole (b ∷ r) (frame_of (b ∷ r)) ⊎ (Short (b ∷ r) (frame_of (b ∷ r)) ⊎ (frame_of (b ∷ r) ≡ closes)) → Start (b ∷ r)
    go (inl q) = let i = q.is in clash (cc)
    go (inr (inr q)) = clash (cc)
    go (inr (inl q)) = filled (b ∷ r) h q.right q.short

get-less : (xs ys : List ℕ) (i : ℕ) → get_or xs i 0 ≤ get_or (xs ++ ys) i 0
get-less [] ys i = omega arith
get-less (x ∷ xs) ys zero = omega arith
get-less (x ∷ xs) ys (suc i) = get-less xs ys i

get-same : (xs ys : List ℕ) (i : ℕ) → i < length xs → get_or xs i 0 ≡ get_or (xs ++ ys) i 0
get-same [] ys i h = absurd (omega arith)
get-same (x ∷ xs) ys zero h = refl
get-same (x ∷ xs) ys (suc i) h = get-same xs ys i (omega arith)

record Heads (m v : List ℕ) : Type 0 where
  first : get_or (frame m v) 0 0 ≡ 70
  message : num4 (frame m v) 1 ≡ length m
  value : num4 (frame m v) 5 ≡ length v
  long : length (frame m v) ≡ 9 + length m + length v

heads : (m v : List ℕ) → Heads m v
unfolding frame be32
heads m v = record { first = refl; message = num-be32 (length m); value = num-be32 (length v); long = omega (arith, length-append m v) }

pub start-more : (xs : List ℕ) → Start xs → frame_of xs ≡ more
unfolding frame_of
start-more [] s = refl
start-more (b ∷ r) s =
    let m = s.message in
    let v = s.value in
    let k = heads m v in
    let less : (i : ℕ) → get_or (b ∷ r) i 0 ≤ get_or (frame m v) i 0 = λ i. subst (λ f. get_or (b ∷ r) i 0 ≤ get_or f i 0) s.is (get-less (b ∷ r) s.after i) in
    let same : (i : ℕ) → i < length (b ∷ r) → get_or (b ∷ r) i 0 ≡ get_or (frame m v) i 0 = λ i h. subst (λ f. get_or (b ∷ r) i 0 ≡ get_or f i 0) s.is (get-same (b ∷ r) s.after i h) in
    let len : length (b ∷ r) + length s.after ≡ 9 + length m + length v = sym (length-append (b ∷ r) s.after) ∙ ap length s.is ∙ k.long in
    let w : Right (b ∷ r) = record {
      first = same 0 (omega arith) ∙ k.first;
      message = omega (arith, less 1, less 2, less 3, less 4, k.message, s.sizes.message);
      value = omega (arith, less 5, less 6, less 7, less 8, k.value, s.sizes.value);
    } in
    rw (right-fits (b ∷ r) w, lt-leb (9 + num4 (b ∷ r) 1 + num4 (b ∷ r) 5) (length (b ∷ r)) (go (leb 9 (length (b ∷ r))) refl same len)) refl
  where
    go : (t : Bool) → leb 9 (length (b ∷ r)) ≡ t → ((i : ℕ) → i < length (b ∷ r) → get_or (b ∷ r) i 0 ≡ get_or (frame s.message s.value) i 0)
        → length (b ∷ r) + length s.after ≡ 9 + length s.message + length s.value → length (b ∷ r) < 9 + num4 (b ∷ r) 1 + num4 (b ∷ r) 5
    go false e same len = omega (arith, leb-false 9 (length (b ∷ r)) e)
    go true e same len =
        let l : 9 ≤ length (b ∷ r) = leb-true 9 (length (b ∷ r)) e in
        let k = heads s.message s.value in
        let p : num4 (b ∷ r) 1 ≡ length s.message = omega (arith, same 1 (omega arith), same 2 (omega arith), same 3 (omega arith), same 4 (omega arith), k.message) in
        let q : num4 (b ∷ r) 5 ≡ length s.value = omega (arith, same 5 (omega arith), same 6 (omega arith), same 7 (omega arith), same 8 (omega arith), k.value) in
        omega (arith, s.proper)
