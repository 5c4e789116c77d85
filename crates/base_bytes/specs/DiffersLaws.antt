-- A comparison by the differences of all bytes.
use Rattle.std.specs.Prelude.{◌≡◌, refl, false, List, [], ◌∷◌, ℕ, eqb, length}
use Rattle.std.proofs.Common.{sym, ap, ap₂, ◌∙◌, arith, eq-eqb, eqb-true}
use Rattle.std.specs.Int.Bits.{bit_or, bit_xor, or_add_and, xor_add_and, xor_self}
use Rattle.std.proofs.lemmas.Nat.{and_le_l, and_le_r}
use Rattle.base_definitions.proofs.ListLaws.{same_bytes-is}
use Rattle.base_definitions.specs.Lists.{same_bytes}
use Rattle.base_bytes.specs.Differs.{differences}

differ : (d x y : ℕ) → bit_or d (bit_xor x y) ≡ 0 → (d ≡ 0) × (x ≡ y)
differ d x y e =
    let b = or_add_and d (bit_xor x y) in
    let l = and_le_l d (bit_xor x y) in
    let r = and_le_r d (bit_xor x y) in
    let z : bit_xor x y ≡ 0 = omega arith in
    (omega arith, omega (arith, xor_add_and x y, and_le_l x y, and_le_r x y))

none-same : (d : ℕ) (xs ys : List ℕ) → length xs ≡ length ys → differences d xs ys ≡ 0 → (d ≡ 0) × (xs ≡ ys)
none-same d [] [] n e = (e, refl)
none-same d [] (y ∷ ys) n e = absurd (omega arith)
none-same d (x ∷ xs) [] n e = absurd (omega arith)
none-same d (x ∷ xs) (y ∷ ys) n e =
    let r = none-same (bit_or d (bit_xor x y)) xs ys (omega arith) e in
    let s = differ d x y r.0 in
    (s.0, ap₂ (λ (z : ℕ) (zs : List ℕ). z ∷ zs) s.1 r.1)

same-none : (d : ℕ) (xs : List ℕ) → d ≡ 0 → differences d xs xs ≡ 0
same-none d [] e = e
same-none d (x ∷ xs) e = same-none (bit_or d (bit_xor x x)) xs (rw (e, xor_self))

pub differences-none : (xs ys : List ℕ) → length xs ≡ length ys → eqb (differences 0 xs ys) 0 ≡ same_bytes xs ys
differences-none xs ys n =
    same_bytes-is (eqb (differences 0 xs ys) 0) xs ys
    (λ t. (none-same 0 xs ys n (eqb-true (differences 0 xs ys) 0 t)).1)
    (λ e. eq-eqb (differences 0 xs ys) 0 (ap (differences 0 xs) (sym e) ∙ same-none 0 xs refl))

pub differ-length : (xs ys : List ℕ) → (length xs ≡ length ys → ⊥) → false ≡ same_bytes xs ys
differ-length xs ys h = same_bytes-is false xs ys (λ e. cc) (λ e. absurd (h (ap length e)))
