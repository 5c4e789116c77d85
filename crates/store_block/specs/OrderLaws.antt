-- Laws of the order of keys: total, strict and transitive; and the order at an index of both.
use Rattle.std.specs.Prelude.{◌≡◌, refl, Bool, true, false, List, [], ◌∷◌, ℕ, ◌+◌, ◌≤◌, ◌<◌, ltb, length, drop, get_or, min}
use Rattle.std.proofs.Common.{sym, ap, ◌∙◌, le_antisymm, arith, drop_of_length-le, drop-cons, add-one, lt-ltb, le-ltb, ltb-true, ltb-false}
use Rattle.std.proofs.Math.Path.{ap₂}
use Rattle.std.specs.declared.cmp.Ordering.TheVariants.{Less, Equal, Greater}
use Rattle.std.specs.Ordering.{nat_cmp, ordering_reverse}
use Rattle.std.specs.Cmp.{nat_cmp_is}
use Rattle.store_block.specs.Order.{cmp, Below}

-- three ways two numbers stand
pub three {ℓ} : {X : Type ℓ} (x y : ℕ) → (x < y → X) → (y < x → X) → (x ≡ y → X) → X
three {X = X} x y f g h = go (ltb x y) refl (ltb y x) refl
  where
    go : (a : Bool) → ltb x y ≡ a → (b : Bool) → ltb y x ≡ b → X
    go true e b e' = f (ltb-true x y e)
    go false e true e' = g (ltb-true y x e')
    go false e false e' = h (le_antisymm (ltb-false y x e') (ltb-false x y e))

pub cmp-less : (x y : ℕ) (xs ys : List ℕ) → x < y → cmp (x ∷ xs) (y ∷ ys) ≡ Less
unfolding cmp
cmp-less x y xs ys h = rw (lt-ltb x y h)

pub cmp-greater : (x y : ℕ) (xs ys : List ℕ) → y < x → cmp (x ∷ xs) (y ∷ ys) ≡ Greater
unfolding cmp
cmp-greater x y xs ys h = let k : y ≤ x = omega arith in rw (le-ltb x y k, lt-ltb y x h)

pub cmp-same : (x y : ℕ) (xs ys : List ℕ) → x ≡ y → cmp (x ∷ xs) (y ∷ ys) ≡ cmp xs ys
unfolding cmp
cmp-same x y xs ys e = let h : y ≤ x = omega arith in let k : x ≤ y = omega arith in rw (le-ltb x y h, le-ltb y x k)

pub cmp-refl : (xs : List ℕ) → cmp xs xs ≡ Equal
unfolding cmp
cmp-refl [] = refl
cmp-refl (x ∷ xs) = cmp-same x x xs xs refl ∙ cmp-refl xs

-- only equal keys compare as equal
pub cmp-equal : (xs ys : List ℕ) → cmp xs ys ≡ Equal → xs ≡ ys
unfolding cmp
cmp-equal [] [] e = refl
cmp-equal [] (y ∷ ys) e = absurd (let z : ◌≡◌ {A = ℕ} 0 1 = cc in omega arith)
cmp-equal (x ∷ xs) [] e = absurd (let z : ◌≡◌ {A = ℕ} 0 1 = cc in omega arith)
cmp-equal (x ∷ xs) (y ∷ ys) e = go (λ p. cmp-equal xs ys p)
  where
    go : (cmp xs ys ≡ Equal → xs ≡ ys) → x ∷ xs ≡ y ∷ ys
    go ih =
        three x y
        (λ h. absurd (let l : cmp (x ∷ xs) (y ∷ ys) ≡ Less = cmp-less x y xs ys h in let z : ◌≡◌ {A = ℕ} 0 1 = cc in omega arith))
        (λ h. absurd (let l : cmp (x ∷ xs) (y ∷ ys) ≡ Greater = cmp-greater x y xs ys h in let z : ◌≡◌ {A = ℕ} 0 1 = cc in omega arith))
        (λ h. ap₂ (λ (a : ℕ) (l : List ℕ). a ∷ l) h (ih (sym (cmp-same x y xs ys h) ∙ e)))

pub cmp-flip : (xs ys : List ℕ) → cmp ys xs ≡ ordering_reverse (cmp xs ys)
unfolding cmp
cmp-flip [] [] = refl
cmp-flip [] (y ∷ ys) = refl
cmp-flip (x ∷ xs) [] = refl
cmp-flip (x ∷ xs) (y ∷ ys) =
    let ih = cmp-flip xs ys in
    three x y
    (λ h. cmp-greater y x ys xs h ∙ ap ordering_reverse (sym (cmp-less x y xs ys h)))
    (λ h. cmp-less y x ys xs h ∙ ap ordering_reverse (sym (cmp-greater x y xs ys h)))
    (λ h. cmp-same y x ys xs (sym h) ∙ ih ∙ ap ordering_reverse (sym (cmp-same x y xs ys h)))

pub below-trans : (xs ys zs : List ℕ) → Below xs ys → Below ys zs → Below xs zs
unfolding cmp
below-trans xs [] [] p q = absurd (let z : ◌≡◌ {A = ℕ} 0 1 = cc in omega arith)
below-trans [] [] (z ∷ zs) p q = q
below-trans (x ∷ xs) [] (z ∷ zs) p q = absurd (let n : ◌≡◌ {A = ℕ} 0 1 = cc in omega arith)
below-trans xs (y ∷ ys) [] p q = absurd (let n : ◌≡◌ {A = ℕ} 0 1 = cc in omega arith)
below-trans [] (y ∷ ys) (z ∷ zs) p q = refl
below-trans (x ∷ xs) (y ∷ ys) (z ∷ zs) p q = go (λ a b. below-trans xs ys zs a b)
  where
    go : (Below xs ys → Below ys zs → Below xs zs) → Below (x ∷ xs) (z ∷ zs)
    go ih =
        three x y
        (λ h. three y z (λ k. cmp-less x z xs zs (omega arith))
        (λ k. absurd (let l : cmp (y ∷ ys) (z ∷ zs) ≡ Greater = cmp-greater y z ys zs k in let n : ◌≡◌ {A = ℕ} 0 1 = cc in omega arith))
        (λ k. cmp-less x z xs zs (omega arith)))
        (λ h. absurd (let l : cmp (x ∷ xs) (y ∷ ys) ≡ Greater = cmp-greater x y xs ys h in let n : ◌≡◌ {A = ℕ} 0 1 = cc in omega arith))
        (λ h. three y z (λ k. cmp-less x z xs zs (omega arith))
        (λ k. absurd (let l : cmp (y ∷ ys) (z ∷ zs) ≡ Greater = cmp-greater y z ys zs k in let n : ◌≡◌ {A = ℕ} 0 1 = cc in omega arith))
        (λ k. cmp-same x z xs zs (h ∙ k) ∙ ih (sym (cmp-same x y xs ys h) ∙ p) (sym (cmp-same y z ys zs k) ∙ q)))

-- the order at an index of both
module _ (a b : List ℕ) (i : ℕ) where
  pub at_both : i < length a → i < length b → cmp (drop i a) (drop i b) ≡ cmp (get_or a i 0 ∷ drop (i + 1) a) (get_or b i 0 ∷ drop (i + 1) b)
  at_both h k = rw add-one (ap₂ cmp (drop-cons a i 0 h) (drop-cons b i 0 k))

  pub at_less : i < length a → i < length b → get_or a i 0 < get_or b i 0 → cmp (drop i a) (drop i b) ≡ Less
  at_less h k l = at_both h k ∙ cmp-less _ _ _ _ l

  pub at_greater : i < length a → i < length b → get_or b i 0 < get_or a i 0 → cmp (drop i a) (drop i b) ≡ Greater
  at_greater h k l = at_both h k ∙ cmp-greater _ _ _ _ l

  pub at_same : i < length a → i < length b → get_or a i 0 ≡ get_or b i 0 → cmp (drop i a) (drop i b) ≡ cmp (drop (i + 1) a) (drop (i + 1) b)
  at_same h k l = at_both h k ∙ cmp-same _ _ _ _ l

  pub b-ends : i < length a → length b ≤ i → cmp (drop i a) (drop i b) ≡ Greater
  unfolding cmp
  b-ends h k = ap₂ cmp (drop-cons a i 0 h) (drop_of_length-le b k)

  pub a-ends : length a ≤ i → i < length b → cmp (drop i a) (drop i b) ≡ Less
  unfolding cmp
  a-ends h k = ap₂ cmp (drop_of_length-le a h) (drop-cons b i 0 k)

  pub both_end : length a ≤ i → length b ≤ i → cmp (drop i a) (drop i b) ≡ Equal
  unfolding cmp
  both_end h k = ap₂ cmp (drop_of_length-le a h) (drop_of_length-le b k)

  -- by the order of the bytes there, where they differ, and where one ends by that of the lengths
  pub at_differ : i < length a → i < length b → (get_or a i 0 ≡ get_or b i 0 → ⊥) → nat_cmp (get_or a i 0) (get_or b i 0) ≡ cmp (drop i a) (drop i b)
  at_differ h k n =
      three (get_or a i 0) (get_or b i 0)
      (λ l. sym (nat_cmp_is _ _ Less l) ∙ sym (at_less h k l))
      (λ l. sym (nat_cmp_is _ _ Greater l) ∙ sym (at_greater h k l))
      (λ l. absurd (n l))

  pub at_end : i ≡ min (length a) (length b) → nat_cmp (length a) (length b) ≡ cmp (drop i a) (drop i b)
  at_end e =
      three (length a) (length b)
      (λ l. sym (nat_cmp_is _ _ Less l) ∙ sym (a-ends (omega arith) (omega arith)))
      (λ l. sym (nat_cmp_is _ _ Greater l) ∙ sym (b-ends (omega arith) (omega arith)))
      (λ l. sym (nat_cmp_is _ _ Equal l) ∙ sym (both_end (omega arith) (omega arith)))
