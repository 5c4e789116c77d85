-- What follows of the definitions of `Wire`: a field is consumed, what follows it does not change it, the framing of an appended list.
use Rattle.std.specs.Prelude.{ℕ, zero, suc, ◌+◌, ◌*◌, ◌/◌, ◌%◌, ◌^◌, ◌≤◌, ◌<◌, ◌≡◌, refl, List, [], ◌∷◌, ◌++◌, Bool, true, false, cond, length, ltb, eqb}
use Rattle.std.proofs.Common.{arith, sym, ap, ◌∙◌, ltb-true}
use Rattle.std.proofs.Math.Option.{Option, none, some}
use Rattle.fields_wire.specs.Reader.{Got, nothing, got, Reader}
use Rattle.fields_wire.specs.ReaderLaws.{never, choose-got, steady_then, steady-give, steady-fail, steady-only, steady-part}
use Rattle.fields_wire.specs.Steady.{Steady}
use Rattle.fields_wire.specs.Wire.{end_below, on_top, varint_in, Field, value_of, read_field, cons_o, then_fields, fields_in, fields_of, Framed}
use Rattle.fields_wire.specs.Appended.{append_o}

pub on_top-got : (b : ℕ) (o : Got ℕ) {v : ℕ} {r : List ℕ} → on_top b o ≡ got v r → (w : ℕ) × (o ≡ got w r) × (v ≡ b % 128 + 128 * w)
on_top-got b nothing e = never e
on_top-got b (got w s) {r = r} e = let h : s ≡ r = cc in (w, ap (got w) h, cc)

varint-more : (n : ℕ) (xs ys : List ℕ) {v : ℕ} {r : List ℕ} → varint_in n xs ≡ got v r → varint_in n (xs ++ ys) ≡ got v (r ++ ys)
unfolding varint_in
varint-more zero xs ys e = never e
varint-more (suc k) [] ys e = never e
varint-more (suc k) (b ∷ xs) ys {v} {r} e = go (ltb b 128) e (λ w e'. varint-more k xs ys {v = w} {r = r} e')
  where
    go : (t : Bool) → cond t (cond (ltb b (end_below k)) (got b xs) nothing) (on_top b (varint_in k xs)) ≡ got v r
        → ((w : ℕ) → varint_in k xs ≡ got w r → varint_in k (xs ++ ys) ≡ got w (r ++ ys))
        → cond t (cond (ltb b (end_below k)) (got b (xs ++ ys)) nothing) (on_top b (varint_in k (xs ++ ys))) ≡ got v (r ++ ys)
    go true h ih = let i = choose-got (ltb b (end_below k)) (got b xs) h in rw i.0 (cc i.1)
    go false h ih = let i = on_top-got b (varint_in k xs) h in rw (ih i.0 i.1) (ap (λ n. got n (r ++ ys)) (sym i.2))

varint-less : (n : ℕ) (xs : List ℕ) {v : ℕ} {r : List ℕ} → varint_in n xs ≡ got v r → 1 + length r ≤ length xs
unfolding varint_in
varint-less zero xs e = never e
varint-less (suc k) [] e = never e
varint-less (suc k) (b ∷ xs) {v} {r} e = go (ltb b 128) e (λ w e'. varint-less k xs {v = w} {r = r} e')
  where
    go : (t : Bool) → cond t (cond (ltb b (end_below k)) (got b xs) nothing) (on_top b (varint_in k xs)) ≡ got v r
        → ((w : ℕ) → varint_in k xs ≡ got w r → 1 + length r ≤ length xs) → 1 + length r ≤ suc (length xs)
    go true h ih = let i = choose-got (ltb b (end_below k)) (got b xs) h in let d : xs ≡ r = cc i.1 in omega (arith, ap length d)
    go false h ih = let i = on_top-got b (varint_in k xs) h in omega (arith, ih i.0 i.1)

pub steady-varint : (n : ℕ) → Steady 1 (varint_in n)
steady-varint n = record { more = varint-more n; less = varint-less n }

pow-pos-128 : (k : ℕ) → 1 ≤ 128 ^ k
pow-pos-128 zero = omega arith
pow-pos-128 (suc k) = omega (arith, pow-pos-128 k)

-- the value of a varint of at most n + 1 bytes is below 2 * 128 ^ n
pub varint-below : (k : ℕ) (xs : List ℕ) {v : ℕ} {r : List ℕ} → varint_in (suc k) xs ≡ got v r → v < 2 * 128 ^ k
unfolding varint_in
varint-below k [] e = never e
varint-below zero (b ∷ xs) {v} {r} e = go (ltb b 128) e
  where
    go : (t : Bool) → cond t (cond (ltb b 2) (got b xs) nothing) (on_top b nothing) ≡ got v r → v < 2 * 128 ^ 0
    go true h = let i = choose-got (ltb b 2) (got b xs) h in let d : b ≡ v = cc i.1 in omega (arith, ltb-true b 2 i.0)
    go false h = never h
varint-below (suc k) (b ∷ xs) {v} {r} e = go (ltb b 128) refl e (λ w e'. varint-below k xs {v = w} {r = r} e')
  where
    go : (t : Bool) → ltb b 128 ≡ t → cond t (cond (ltb b 128) (got b xs) nothing) (on_top b (varint_in (suc k) xs)) ≡ got v r
        → ((w : ℕ) → varint_in (suc k) xs ≡ got w r → w < 2 * 128 ^ k) → v < 2 * 128 ^ suc k
    go true q h ih = let i = choose-got (ltb b 128) (got b xs) h in let d : b ≡ v = cc i.1 in omega (arith, ltb-true b 128 q, pow-pos-128 k)
    go false q h ih = let i = on_top-got b (varint_in (suc k) xs) h in omega (arith, ih i.0 i.1, i.2)

weaken : {A : Type 0} {n : ℕ} {f : Reader A} → Steady n f → Steady 0 f
weaken h = record { more = h.more; less = λ xs e. omega (arith, h.less xs e) }

steady-choose : {A : Type 0} {n : ℕ} (t : Bool) {f g : Reader A} → Steady n f → Steady n g → Steady n (λ xs. cond t (f xs) (g xs))
steady-choose true hf hg = record { more = hf.more; less = hf.less }
steady-choose false hf hg = record { more = hg.more; less = hg.less }

steady-value : (n w : ℕ) → Steady 0 (value_of n w)
unfolding value_of
steady-value n w =
    steady-choose (eqb w 0) (steady_then (weaken (steady-varint 10)) (λ v. steady-give _))
    (steady-choose (eqb w 1) (steady_then (steady-part 8) (λ b. steady-give _))
    (steady-choose (eqb w 2) (steady_then (weaken (steady-varint 10)) (λ l. steady_then (steady-part l) (λ b. steady-give _)))
    (steady-choose (eqb w 5) (steady_then (steady-part 4) (λ b. steady-give _)) (steady-fail 0))))

pub steady-field : Steady 1 read_field
unfolding read_field
steady-field = steady_then (steady-varint 10) (λ t. steady-only (ltb t (2 ^ 32)) (steady-only (ltb 7 t) (steady-value (t / 8) (t % 8))))

-- how much fuel does not matter, from the length on
fields-fuel : (n m : ℕ) (xs : List ℕ) → length xs ≤ n → length xs ≤ m → fields_in n xs ≡ fields_in m xs
unfolding fields_in
fields-fuel zero zero xs hn hm = refl
fields-fuel zero (suc m) [] hn hm = refl
fields-fuel zero (suc m) (b ∷ xs) hn hm = absurd (omega arith)
fields-fuel (suc n) zero [] hn hm = refl
fields-fuel (suc n) zero (b ∷ xs) hn hm = absurd (omega arith)
fields-fuel (suc n) (suc m) [] hn hm = refl
fields-fuel (suc n) (suc m) (b ∷ xs) hn hm = go (read_field (b ∷ xs)) refl (λ r. fields-fuel n m r)
  where
    go : (o : Got Field) → read_field (b ∷ xs) ≡ o → ((r : List ℕ) → length r ≤ n → length r ≤ m → fields_in n r ≡ fields_in m r)
        → then_fields o (λ r. fields_in n r) ≡ then_fields o (λ r. fields_in m r)
    go nothing e ih = refl
    go (got f r) e ih =
        let l : 1 + length r ≤ suc (length xs) = steady-field.less (b ∷ xs) e in
        ap (cons_o f) (ih r (omega arith) (omega arith))

pub fields-front : (xs : List ℕ) {f : Field} {r : List ℕ} → read_field xs ≡ got f r → fields_of xs ≡ cons_o f (fields_of r)
unfolding fields_of fields_in
fields-front [] {f} {r} e = let l : 1 + length r ≤ 0 = steady-field.less [] e in absurd (omega arith)
fields-front (b ∷ xs) {f} {r} e =
    let l : 1 + length r ≤ suc (length xs) = steady-field.less (b ∷ xs) e in
    rw e (ap (cons_o f) (fields-fuel (length xs) (length r) r (omega arith) (omega arith)))

pub fields-put : {f : Field} {x : List ℕ} (m : List ℕ) → Framed f x → fields_of (x ++ m) ≡ cons_o f (fields_of m)
fields-put {f} {x} m e = fields-front (x ++ m) (steady-field.more x m e.whole)

append-none : (o : Option (List Field)) → o ≡ append_o [] o
append-none none = refl
append-none (some gs) = refl

append-cons : (f : Field) (fs : List Field) (o : Option (List Field)) → cons_o f (append_o fs o) ≡ append_o (f ∷ fs) o
append-cons f fs none = refl
append-cons f fs (some gs) = refl

cons_o-some : (f : Field) (o : Option (List Field)) {fs : List Field} → cons_o f o ≡ some fs → (gs : List Field) × (o ≡ some gs) × (fs ≡ f ∷ gs)
cons_o-some f none e = let z : ◌≡◌ {A = ℕ} 0 1 = cc in absurd (omega arith)
cons_o-some f (some gs) e = (gs, refl, cc)

append-in : (n : ℕ) (a b : List ℕ) {fs : List Field} → fields_in n a ≡ some fs → fields_of (a ++ b) ≡ append_o fs (fields_of b)
unfolding fields_in
append-in zero [] b {fs} e = let h : [] ≡ fs = cc in rw (← h) (append-none (fields_of b))
append-in zero (c ∷ xs) b e = let z : ◌≡◌ {A = ℕ} 0 1 = cc in absurd (omega arith)
append-in (suc n) [] b {fs} e = let h : [] ≡ fs = cc in rw (← h) (append-none (fields_of b))
append-in (suc n) (c ∷ xs) b {fs} e = go (read_field (c ∷ xs)) refl e (λ r gs h. append-in n r b {fs = gs} h)
  where
    go : (o : Got Field) → read_field (c ∷ xs) ≡ o → then_fields o (λ r. fields_in n r) ≡ some fs
        → ((r : List ℕ) (gs : List Field) → fields_in n r ≡ some gs → fields_of (r ++ b) ≡ append_o gs (fields_of b))
        → fields_of ((c ∷ xs) ++ b) ≡ append_o fs (fields_of b)
    go nothing q h ih = let z : ◌≡◌ {A = ℕ} 0 1 = cc in absurd (omega arith)
    go (got f r) q h ih =
        let i = cons_o-some f (fields_in n r) h in
        fields-front ((c ∷ xs) ++ b) (steady-field.more (c ∷ xs) b q) ∙ ap (cons_o f) (ih r i.0 i.1) ∙ append-cons f i.0 (fields_of b)
        ∙ ap (λ l. append_o l (fields_of b)) (sym i.2)

-- the framing of two strings, the first well framed
pub fields-append : (a b : List ℕ) {fs : List Field} → fields_of a ≡ some fs → fields_of (a ++ b) ≡ append_o fs (fields_of b)
unfolding fields_of
fields-append a b e = append-in (length a) a b e
