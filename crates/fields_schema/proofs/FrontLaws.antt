-- What a reader takes is a front part of its input, and it reads that part alone alike.
use Rattle.std.specs.Prelude.{ℕ, zero, suc, ◌+◌, ◌*◌, ◌/◌, ◌%◌, ◌^◌, ◌≤◌, ◌<◌, ◌≡◌, refl, List, [], ◌∷◌, ◌++◌, Bool, true, false, cond, length, take, drop, ltb, leb, eqb}
use Rattle.std.proofs.Common.{arith, sym, ap, ◌∙◌, append_assoc, take-append-drop, length-append, length-take, drop_of_length-le, take_all, le-leb, leb-true, lt-ltb, ltb-true}
use Rattle.std.proofs.Math.Seq.{drop-length}
use Rattle.fields_wire.specs.Reader.{Got, nothing, got, then, Reader, and_then, give, fail, only, part}
use Rattle.fields_wire.specs.ReaderLaws.{never, then-got, choose-got, steady-part}
use Rattle.fields_wire.specs.Steady.{Steady}
use Rattle.fields_wire.specs.Wire.{end_below, on_top, varint_in, varint, Value, vint, v64, vlen, v32, Field, field, value_of, read_field, Framed}
use Rattle.fields_wire.specs.WireLaws.{on_top-got, steady-varint}
use Rattle.fields_wire.specs.Varint.{varint_bytes}
use Rattle.fields_wire.specs.VarintLaws.{varint-whole, varint-ten}

record Fronted {A : Type 0} (f : Reader A) : Type 0 where
  front : (xs : List ℕ) {a : A} {r : List ℕ} → f xs ≡ got a r → (x : List ℕ) × (xs ≡ x ++ r) × (f x ≡ got a [])

fronted-give : {A : Type 0} (a : A) → Fronted (give a)
fronted-give {A} a = record { front = λ xs e. ([], cc, cc) }

fronted-fail : {A : Type 0} → Fronted {A = A} fail
fronted-fail = record { front = λ xs e. never e }

fronted-choose : {A : Type 0} (t : Bool) {f g : Reader A} → Fronted f → Fronted g → Fronted (λ xs. cond t (f xs) (g xs))
fronted-choose true hf hg = record { front = hf.front }
fronted-choose false hf hg = record { front = hg.front }

fronted-only : {A : Type 0} (t : Bool) {f : Reader A} → Fronted f → Fronted (only t f)
fronted-only true h = record { front = h.front }
fronted-only false h = record { front = λ xs e. never e }

fronted-then : {A B : Type 0} {n : ℕ} {f : Reader A} {g : A → Reader B} → Steady n f → Fronted f → ((a : A) → Fronted (g a)) → Fronted (and_then f g)
fronted-then {A} {B} {n} {f} {g} s hf hg = record { front = front }
  where
    front : (xs : List ℕ) {b : B} {r : List ℕ} → and_then f g xs ≡ got b r → (x : List ℕ) × (xs ≡ x ++ r) × (and_then f g x ≡ got b [])
    front xs {b} {r} e =
        let i = then-got (f xs) g e in
        let p = hf.front xs i.2 in
        let q = (hg i.0).front i.1 i.3 in
        (p.0 ++ q.0, p.1 ∙ ap (λ l. p.0 ++ l) q.1 ∙ sym (append_assoc p.0 q.0 r), rw (s.more p.0 q.0 p.2) q.2)

fronted-part : (n : ℕ) → Fronted (part n)
fronted-part n = record { front = front }
  where
    front : (xs : List ℕ) {a r : List ℕ} → part n xs ≡ got a r → (x : List ℕ) × (xs ≡ x ++ r) × (part n x ≡ got a [])
    front xs {a} {r} e =
        let i = choose-got (leb n (length xs)) (got (take n xs) (drop n xs)) e in
        let h : n ≤ length xs = leb-true _ _ i.0 in
        let t : take n xs ≡ a = cc i.1 in
        let d : drop n xs ≡ r = cc i.1 in
        let l : length (take n xs) ≡ n = simp length-take (omega arith) in (
          take n xs,
          sym (take-append-drop n xs) ∙ ap (λ l. take n xs ++ l) d,
          rw (le-leb n (length (take n xs)) (omega arith), take_all n (take n xs) (omega arith), drop_of_length-le (take n xs) {i = n} (omega arith))
              (ap (λ a. got a []) t),
        )

varint-front : (n : ℕ) (xs : List ℕ) {v : ℕ} {r : List ℕ} → varint_in n xs ≡ got v r → (x : List ℕ) × (xs ≡ x ++ r) × (varint_in n x ≡ got v [])
unfolding varint_in
varint-front zero xs e = never e
varint-front (suc k) [] e = never e
varint-front (suc k) (b ∷ xs) {v} {r} e = go (ltb b 128) refl e (λ w e'. varint-front k xs {v = w} {r = r} e')
  where
    go : (t : Bool) → ltb b 128 ≡ t → cond t (cond (ltb b (end_below k)) (got b xs) nothing) (on_top b (varint_in k xs)) ≡ got v r
        → ((w : ℕ) → varint_in k xs ≡ got w r → (x : List ℕ) × (xs ≡ x ++ r) × (varint_in k x ≡ got w []))
        → (x : List ℕ) × (b ∷ xs ≡ x ++ r) × (varint_in (suc k) x ≡ got v [])
    go true q h ih =
        let i = choose-got (ltb b (end_below k)) (got b xs) h in
        let d : xs ≡ r = cc i.1 in
        let p : b ≡ v = cc i.1 in
        (b ∷ [], ap (λ l. b ∷ l) d, rw (q, i.0) (ap (λ v. got v []) p))
    go false q h ih =
        let i = on_top-got b (varint_in k xs) h in
        let p = ih i.0 i.1 in
        (b ∷ p.0, ap (λ l. b ∷ l) p.1, rw (q, p.2) (ap (λ v. got v []) (sym i.2)))

fronted-varint : Fronted varint
fronted-varint = record { front = λ xs e. varint-front 10 xs e }

fronted-value : (n w : ℕ) → Fronted (value_of n w)
unfolding value_of
fronted-value n w =
    fronted-choose (eqb w 0) (fronted-then (steady-varint 10) fronted-varint (λ v. fronted-give _))
    (fronted-choose (eqb w 1) (fronted-then (steady-part 8) (fronted-part 8) (λ b. fronted-give _))
    (fronted-choose (eqb w 2)
    (fronted-then (steady-varint 10) fronted-varint (λ l. fronted-then (steady-part l) (fronted-part l) (λ b. fronted-give _)))
    (fronted-choose (eqb w 5) (fronted-then (steady-part 4) (fronted-part 4) (λ b. fronted-give _)) fronted-fail)))

fronted-field : Fronted read_field
unfolding read_field
fronted-field =
    fronted-then (steady-varint 10) fronted-varint
    (λ t. fronted-only (ltb t (2 ^ 32)) (fronted-only (ltb 7 t) (fronted-value (t / 8) (t % 8))))

pub field-front : (xs : List ℕ) {f : Field} {r : List ℕ} → read_field xs ≡ got f r → (x : List ℕ) × (xs ≡ x ++ r) × Framed f x
field-front xs e = let i = fronted-field.front xs e in (i.0, i.1, record { whole = i.2 })

-- the number of a field is 1 to 2^29 - 1 -------------------------------------------------------------------------------

choose-either : {A B : Type 0} (t : Bool) (o p : Got A) {a : A} {r : List ℕ} → cond t o p ≡ got a r → (o ≡ got a r → B) → (p ≡ got a r → B) → B
choose-either true o p e f g = f e
choose-either false o p e f g = g e

abbrev number_of : Field → ℕ
number_of (field n v) = n

made : {A : Type 0} (n : ℕ) (h : A → Value) (o : Got A) {f : Field} {r : List ℕ} → then o (λ a s. got (field n (h a)) s) ≡ got f r → n ≡ number_of f
made n h o {f} {r} e = let i = then-got o (λ a s. got (field n (h a)) s) e in let q : field n (h i.0) ≡ f = cc i.3 in ap number_of q

value-number : (n w : ℕ) (xs : List ℕ) {f : Field} {r : List ℕ} → value_of n w xs ≡ got f r → n ≡ number_of f
unfolding value_of
value-number n w xs {f} {r} e =
    choose-either (eqb w 0) _ _ e (λ q. made n vint (varint xs) q)
    (λ e. choose-either (eqb w 1) _ _ e (λ q. made n v64 (part 8 xs) q)
    (λ e. choose-either (eqb w 2) _ _ e
    (λ q. let i = then-got (varint xs) (λ l s. then (part l s) (λ b s. got (field n (vlen b)) s)) q in made n vlen (part i.0 i.1) i.3)
    (λ e. choose-either (eqb w 5) _ _ e (λ q. made n v32 (part 4 xs) q) (λ q. never q))))

pub framed-number : {n : ℕ} {v : Value} {x : List ℕ} → Framed (field n v) x → (1 ≤ n) × (n < 2 ^ 29)
unfolding read_field
framed-number {n} {v} {x} h =
    let i = then-got (varint x) _ h.whole in
    let p = choose-got (ltb i.0 (2 ^ 32)) _ i.3 in
    let q = choose-got (ltb 7 i.0) _ p.1 in
    let d : i.0 / 8 ≡ n = value-number (i.0 / 8) (i.0 % 8) i.1 q.1 in
    (omega (arith, ltb-true 7 i.0 q.0), omega (arith, ltb-true i.0 (2 ^ 32) p.0))

-- a field that holds bytes: a tag, a length and the bytes ----------------------------------------------------------------

part-all : (b : List ℕ) → part (length b) b ≡ got b []
part-all b = rw (le-leb (length b) (length b) (omega arith), take_all (length b) b (omega arith), drop-length b) refl

bytes-value : (n : ℕ) (len b : List ℕ) → varint len ≡ got (length b) [] → value_of n 2 (len ++ b) ≡ got (field n (vlen b)) []
unfolding value_of
bytes-value n len b e = rw ((steady-varint 10).more len b e, part-all b) refl

-- the tag and the length in any form allowed: to correct a length is to change the middle one
pub framed-bytes : (n : ℕ) (tag len b : List ℕ) → varint tag ≡ got (n * 8 + 2) [] → 1 ≤ n → n < 2 ^ 29 → varint len ≡ got (length b) []
    → Framed (field n (vlen b)) (tag ++ (len ++ b))
unfolding read_field
framed-bytes n tag len b t p q l =
    record {
      whole =
          rw ((steady-varint 10).more tag (len ++ b) t, lt-ltb (n * 8 + 2) (2 ^ 32) (omega arith), lt-ltb 7 (n * 8 + 2) (omega arith))
          (two (n * 8 + 2) n (omega arith) (omega arith));
    }
  where
    two : (t n : ℕ) → t / 8 ≡ n → t % 8 ≡ 2 → value_of (t / 8) (t % 8) (len ++ b) ≡ got (field n (vlen b)) []
    two t n h g = rw (h, g) (bytes-value n len b l)

-- any other bytes can stand in the field's place
pub framed-other : {n : ℕ} {b x : List ℕ} (b' : List ℕ) → Framed (field n (vlen b)) x → length b' < 2 ^ 64
    → (x' : List ℕ) × Framed (field n (vlen b')) x' × (length x' ≤ 20 + length b')
framed-other {n} b' h l =
    let i = framed-number h in
    let tag = varint_bytes (n * 8 + 2) in
    let len = varint_bytes (length b') in
    let t : n * 8 + 2 < 2 ^ 64 = omega arith in (
      tag ++ (len ++ b'),
      framed-bytes n tag len b' (varint-whole (n * 8 + 2) t) i.0 i.1 (varint-whole (length b') l),
      omega (arith, length-append tag (len ++ b'), length-append len b', varint-ten (n * 8 + 2) t, varint-ten (length b') l),
    )

-- it is longer than they are
part_length : (n : ℕ) (xs : List ℕ) {b r : List ℕ} → part n xs ≡ got b r → length b ≤ length xs
part_length n xs {b} {r} e =
    let i = choose-got (leb n (length xs)) (got (take n xs) (drop n xs)) e in
    let t : take n xs ≡ b = cc i.1 in
    let h : length (take n xs) ≤ length xs = simp length-take (omega arith) in
    omega (arith, ap length t)

abbrev held_by : Field → List ℕ
held_by (field n (vint v)) = []
held_by (field n (v64 b)) = []
held_by (field n (vlen b)) = b
held_by (field n (v32 b)) = []

value-length : (n w : ℕ) (xs : List ℕ) {f : Field} {r : List ℕ} → value_of n w xs ≡ got f r → length (held_by f) ≤ length xs
unfolding value_of
value-length n w xs {f} {r} e =
    choose-either (eqb w 0) _ _ e (λ q. empty (λ v. field n (vint v)) (λ v. refl) (varint xs) q)
    (λ e. choose-either (eqb w 1) _ _ e (λ q. empty (λ b. field n (v64 b)) (λ b. refl) (part 8 xs) q)
    (λ e. choose-either (eqb w 2) _ _ e
    (λ q.
    let i = then-got (varint xs) (λ l s. then (part l s) (λ b s. got (field n (vlen b)) s)) q in
    let p = then-got (part i.0 i.1) (λ b s. got (field n (vlen b)) s) i.3 in
    let h : field n (vlen p.0) ≡ f = cc p.3 in
    omega (arith, ap (λ f. length (held_by f)) h, part_length i.0 i.1 p.2, (steady-varint 10).less xs i.2))
    (λ e. choose-either (eqb w 5) _ _ e (λ q. empty (λ b. field n (v32 b)) (λ b. refl) (part 4 xs) q) (λ q. never q))))
  where
    empty : {A : Type 0} (g : A → Field) → ((a : A) → held_by (g a) ≡ []) → (o : Got A) → then o (λ a s. got (g a) s) ≡ got f r
        → length (held_by f) ≤ length xs
    empty g z o q =
        let i = then-got o (λ a s. got (g a) s) q in
        let h : g i.0 ≡ f = cc i.3 in
        omega (arith, ap (λ f. length (held_by f)) h, ap length (z i.0))

pub framed-length : {n : ℕ} {b x : List ℕ} → Framed (field n (vlen b)) x → length b ≤ length x
unfolding read_field
framed-length {n} {b} {x} h =
    let i = then-got (varint x) _ h.whole in
    let p = choose-got (ltb i.0 (2 ^ 32)) _ i.3 in
    let q = choose-got (ltb 7 i.0) _ p.1 in
    omega (arith, value-length (i.0 / 8) (i.0 % 8) i.1 q.1, (steady-varint 10).less x i.2)
