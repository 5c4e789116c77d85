-- `same_bytes` is true exactly where two lists are the same.
use Rattle.std.specs.Prelude.{◌≡◌, refl, List, [], ◌∷◌, Bool, true, false, ◌&&◌, ℕ, eqb}
use Rattle.std.proofs.Common.{sym, ap₂, ◌∙◌, eq-eqb, eqb-true}
use Rattle.base_definitions.specs.Lists.{same_bytes}

pub same_bytes-self : (xs : List ℕ) → same_bytes xs xs ≡ true
unfolding same_bytes
same_bytes-self [] = refl
same_bytes-self (x ∷ xs) = rw (eq-eqb x x refl) (same_bytes-self xs)

same_bytes-step : (x y : ℕ) (xs ys : List ℕ) (b : Bool) → eqb x y ≡ b → (same_bytes xs ys ≡ true → xs ≡ ys) → (b && same_bytes xs ys) ≡ true → x ∷ xs ≡ y ∷ ys
same_bytes-step x y xs ys true e h k = ap₂ ◌∷◌ (eqb-true x y e) (h k)
same_bytes-step x y xs ys false e h k = cc

pub same_bytes-true : (xs ys : List ℕ) → same_bytes xs ys ≡ true → xs ≡ ys
unfolding same_bytes
same_bytes-true [] [] h = refl
same_bytes-true [] (y ∷ ys) h = cc
same_bytes-true (x ∷ xs) [] h = cc
same_bytes-true (x ∷ xs) (y ∷ ys) h = same_bytes-step x y xs ys (eqb x y) refl (same_bytes-true xs ys) h

-- a test that is true exactly where the lists are the same is `same_bytes`
pub same_bytes-is : (r : Bool) (xs ys : List ℕ) → (r ≡ true → xs ≡ ys) → (xs ≡ ys → r ≡ true) → r ≡ same_bytes xs ys
same_bytes-is true xs ys h k = sym (rw (← h refl) (same_bytes-self xs))
same_bytes-is false xs ys h k = go (same_bytes xs ys) refl
  where
    go : (b : Bool) → same_bytes xs ys ≡ b → false ≡ same_bytes xs ys
    go true e = k (same_bytes-true xs ys e) ∙ sym e
    go false e = sym e
