-- Laws of one turn of a loop.
use Rattle.std.specs.Prelude.{◌≡◌, List, ℕ, ◌<◌, get_or}
use Rattle.std.specs.Prelude.{refl, zero, suc, ◌+◌, eqb, length, drop}
use Rattle.std.proofs.Common.{ap, arith, ext_get_or, below_more, eq-eqb, eqb-true, subst, drop_of_length-le}
use Rattle.std.proofs.lemmas.List.{drop_more}
use Rattle.std.specs.Int.Bits.{bit_or, bit_xor, or_add_and, xor_add_and, xor_self}
use Rattle.std.proofs.lemmas.Nat.{and_le_l, and_le_r}
use Rattle.base_definitions.proofs.ListLaws.{same_bytes-is}
use Rattle.base_definitions.specs.Lists.{same_bytes}
use Rattle.base_bytes.specs.Differs.{differences}
use Rattle.base_bytes.proofs.Turn.{Agree}

pub agree-none : (xs ys : List ℕ) → Agree xs ys 0 0
agree-none xs ys = record { yes = λ e k h. absurd (omega arith); no = λ h. refl }

pub agree-more : (xs ys : List ℕ) (i o : ℕ) → Agree xs ys i o → Agree xs ys (i + 1) (bit_or o (bit_xor (get_or xs i 0) (get_or ys i 0)))
agree-more xs ys i o a = record { yes = yes; no = no }
  where
    x : ℕ
    x = get_or xs i 0

    y : ℕ
    y = get_or ys i 0

    yes : bit_or o (bit_xor x y) ≡ 0 → (k : ℕ) → k < i + 1 → get_or xs k 0 ≡ get_or ys k 0
    yes e =
        let b = or_add_and o (bit_xor x y) in
        let l = and_le_l o (bit_xor x y) in
        let r = and_le_r o (bit_xor x y) in
        let o₀ : o ≡ 0 = omega arith in
        let d : bit_xor x y ≡ 0 = omega arith in
        let q : x ≡ y = omega (arith, xor_add_and x y, and_le_l x y, and_le_r x y) in
        below_more (λ (k : ℕ). get_or xs k 0 ≡ get_or ys k 0) i (a.yes o₀) q

    no : ((k : ℕ) → k < i + 1 → get_or xs k 0 ≡ get_or ys k 0) → bit_or o (bit_xor x y) ≡ 0
    no h =
        let o₀ : o ≡ 0 = a.no (λ k l. h k (omega arith)) in
        let q : x ≡ y = h i (omega arith) in
        rw (o₀, q, xor_self)

-- the turns of the fold, from place i to the end
agree-turns : (n : ℕ) (xs ys : List ℕ) (i o : ℕ) → length xs ≡ length ys → i + n ≡ length xs → Agree xs ys i o → Agree xs ys (length xs) (differences o (drop i xs) (drop i ys))
agree-turns zero xs ys i o e l a =
    let j : i ≡ length xs = omega arith in
    rw (drop_of_length-le xs {i = i} (omega arith)) (subst (λ (j : ℕ). Agree xs ys j o) j a)
agree-turns (suc n) xs ys i o e l a =
    rw (drop_more xs i 0 (omega arith), drop_more ys i 0 (omega arith)) (agree-turns n xs ys (i + 1) (bit_or o (bit_xor (get_or xs i 0) (get_or ys i 0))) e (omega arith) (agree-more xs ys i o a))

pub agree-fold : (xs ys : List ℕ) → length xs ≡ length ys → Agree xs ys (length xs) (differences 0 xs ys)
agree-fold xs ys e = agree-turns (length xs) xs ys 0 0 e (omega arith) (agree-none xs ys)

pub agree-is : (xs ys : List ℕ) (o : ℕ) → length xs ≡ length ys → Agree xs ys (length xs) o → eqb o 0 ≡ same_bytes xs ys
agree-is xs ys o e a =
    same_bytes-is (eqb o 0) xs ys
    (λ t. ext_get_or 0 xs ys e (λ k h. a.yes (eqb-true o 0 t) k h))
    (λ t. eq-eqb o 0 (a.no (λ k h. ap (λ z. get_or z k 0) t)))
