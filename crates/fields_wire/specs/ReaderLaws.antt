-- Two laws hold of whatever is made of the pieces of `Reader`: what follows does not change what is read, and what is left is shorter.
use Rattle.std.specs.Prelude.{ℕ, ◌+◌, ◌≤◌, ◌≡◌, refl, List, ◌++◌, Bool, true, false, cond, length, take, drop, leb}
use Rattle.std.proofs.Common.{arith, ap, length-append, length-drop, leb-true, le-leb}
use Rattle.std.proofs.lemmas.List.{take-append-le, drop-append-le}
use Rattle.fields_wire.specs.Reader.{Got, nothing, got, then, Reader, and_then, give, fail, only, part}
use Rattle.fields_wire.specs.Steady.{Steady}

pub never : {A B : Type 0} {a : A} {r : List ℕ} → ◌≡◌ {A = Got A} nothing (got a r) → B
never e = let z : ◌≡◌ {A = ℕ} 0 1 = cc in absurd (omega arith)

pub then-got : {A B : Type 0} (o : Got A) (f : A → List ℕ → Got B) {b : B} {r : List ℕ} → then o f ≡ got b r
    → (a : A) × (s : List ℕ) × (o ≡ got a s) × (f a s ≡ got b r)
then-got nothing f e = never e
then-got (got a s) f e = (a, s, refl, e)

pub choose-got : {A : Type 0} (t : Bool) (o : Got A) {b : A} {r : List ℕ} → cond t o nothing ≡ got b r → (t ≡ true) × (o ≡ got b r)
choose-got true o e = (refl, e)
choose-got false o e = never e

pub steady_then : {A B : Type 0} {n : ℕ} {f : Reader A} {g : A → Reader B} → Steady n f → ((a : A) → Steady 0 (g a)) → Steady n (and_then f g)
steady_then {A} {B} {n} {f} {g} hf hg = record { more = more; less = less }
  where
    more : (xs ys : List ℕ) {b : B} {r : List ℕ} → and_then f g xs ≡ got b r → and_then f g (xs ++ ys) ≡ got b (r ++ ys)
    more xs ys e =
        let i = then-got (f xs) g e in
        rw (hf.more xs ys i.2) ((hg i.0).more i.1 ys i.3)

    less : (xs : List ℕ) {b : B} {r : List ℕ} → and_then f g xs ≡ got b r → n + length r ≤ length xs
    less xs e =
        let i = then-got (f xs) g e in
        omega (arith, hf.less xs i.2, (hg i.0).less i.1 i.3)

pub steady-give : {A : Type 0} (a : A) → Steady 0 (give a)
steady-give {A} a = record { more = λ xs ys e. cc; less = less }
  where
    less : (xs : List ℕ) {b : A} {r : List ℕ} → give a xs ≡ got b r → 0 + length r ≤ length xs
    less xs {b} {r} e = let h : xs ≡ r = cc in omega (arith, ap length h)

pub steady-fail : {A : Type 0} (n : ℕ) → Steady {A = A} n fail
steady-fail n = record { more = λ xs ys e. never e; less = λ xs e. never e }

pub steady-only : {A : Type 0} {n : ℕ} (t : Bool) {f : Reader A} → Steady n f → Steady n (only t f)
steady-only true h = record { more = h.more; less = h.less }
steady-only false h = record { more = λ xs ys e. never e; less = λ xs e. never e }

pub steady-part : (n : ℕ) → Steady 0 (part n)
steady-part n = record { more = more; less = less }
  where
    more : (xs ys : List ℕ) {a : List ℕ} {r : List ℕ} → part n xs ≡ got a r → part n (xs ++ ys) ≡ got a (r ++ ys)
    more xs ys {a} {r} e =
        let i = choose-got (leb n (length xs)) (got (take n xs) (drop n xs)) e in
        let h : n ≤ length xs = leb-true _ _ i.0 in
        let t : take n xs ≡ a = cc i.1 in
        let d : drop n xs ≡ r = cc i.1 in
        rw (le-leb n (length (xs ++ ys)) (omega (arith, length-append xs ys))) (rw (take-append-le n xs ys h, drop-append-le n xs ys h, t, d))

    less : (xs : List ℕ) {a : List ℕ} {r : List ℕ} → part n xs ≡ got a r → 0 + length r ≤ length xs
    less xs {a} {r} e =
        let i = choose-got (leb n (length xs)) (got (take n xs) (drop n xs)) e in
        let d : drop n xs ≡ r = cc i.1 in
        omega (arith, length-drop n xs, ap length d)
