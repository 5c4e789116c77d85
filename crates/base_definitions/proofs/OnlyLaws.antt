-- Those of a list that pass a test.
use Rattle.std.specs.Prelude.{◌≡◌, Bool, ◌&&◌}
use Rattle.std.proofs.Math.Path.{refl, sym, ap}
use Rattle.std.proofs.Common.{◌∙◌}
use Rattle.std.proofs.Math.Bool.{true, false, cond}
use mathlib.Core.List.{List, [], ◌∷◌, ◌++◌, append-nil, reverse, reverse-cons}
use Rattle.base_definitions.specs.Lists.{map_l, only}

module _ {A : Type 0} (f : A → Bool) where
  pub only_yes : (x : A) (xs : List A) → f x ≡ true → only f (x ∷ xs) ≡ x ∷ only f xs
  unfolding only
  only_yes x xs e = rw e refl

  pub only_no : (x : A) (xs : List A) → f x ≡ false → only f (x ∷ xs) ≡ only f xs
  unfolding only
  only_no x xs e = rw e refl

  pub only-append : (xs ys : List A) → only f (xs ++ ys) ≡ only f xs ++ only f ys
  unfolding only
  only-append [] ys = refl
  only-append (x ∷ xs) ys = go (f x) (only-append xs ys)
    where
      go : (b : Bool) → only f (xs ++ ys) ≡ only f xs ++ only f ys → cond b (x ∷ only f (xs ++ ys)) (only f (xs ++ ys)) ≡ cond b (x ∷ only f xs) (only f xs) ++ only f ys
      go true e = ap (λ (l : List A). x ∷ l) e
      go false e = e

  -- turned round before or after
  pub only-reverse : (xs : List A) → reverse (only f xs) ≡ only f (reverse xs)
  unfolding only
  only-reverse [] = refl
  only-reverse (x ∷ xs) = go (f x) refl (only-reverse xs) ∙ sym (ap (only f) (reverse-cons x xs) ∙ only-append (reverse xs) (x ∷ []))
    where
      go : (b : Bool) → f x ≡ b → reverse (only f xs) ≡ only f (reverse xs) → reverse (cond b (x ∷ only f xs) (only f xs)) ≡ only f (reverse xs) ++ only f (x ∷ [])
      go true e ih = reverse-cons x (only f xs) ∙ (λ i. ih i ++ sym (only_yes x [] e) i)
      go false e ih = ih ∙ sym (append-nil (only f (reverse xs))) ∙ ap (λ (l : List A). only f (reverse xs) ++ l) (sym (only_no x [] e))

-- two tests in either order
pub only-only : {A : Type 0} (f g : A → Bool) (xs : List A) → only f (only g xs) ≡ only g (only f xs)
unfolding only
only-only f g [] = refl
only-only {A} f g (x ∷ xs) = go (f x) (g x) refl refl (only-only f g xs)
  where
    go : (a b : Bool) → f x ≡ a → g x ≡ b → only f (only g xs) ≡ only g (only f xs) → only f (cond b (x ∷ only g xs) (only g xs)) ≡ only g (cond a (x ∷ only f xs) (only f xs))
    go true true p q e = only_yes f x (only g xs) p ∙ ap (λ (l : List A). x ∷ l) e ∙ sym (only_yes g x (only f xs) q)
    go true false p q e = e ∙ sym (only_no g x (only f xs) q)
    go false true p q e = only_no f x (only g xs) p ∙ e
    go false false p q e = e

-- tests that agree
pub only-alike : {A : Type 0} (f g : A → Bool) → ((x : A) → f x ≡ g x) → (xs : List A) → only f xs ≡ only g xs
unfolding only
only-alike f g h [] = refl
only-alike {A} f g h (x ∷ xs) = λ i. cond (h x i) (x ∷ only-alike f g h xs i) (only-alike f g h xs i)

pub map-append : {A B : Type 0} (f : A → B) (xs ys : List A) → map_l f (xs ++ ys) ≡ map_l f xs ++ map_l f ys
unfolding map_l
map-append f [] ys = refl
map-append {B = B} f (x ∷ xs) ys = ap (λ (l : List B). f x ∷ l) (map-append f xs ys)

pub map-reverse : {A B : Type 0} (f : A → B) (xs : List A) → reverse (map_l f xs) ≡ map_l f (reverse xs)
unfolding map_l
map-reverse f [] = refl
map-reverse {B = B} f (x ∷ xs) =
    reverse-cons (f x) (map_l f xs) ∙ ap (λ (l : List B). l ++ (f x ∷ [])) (map-reverse f xs) ∙ sym (ap (map_l f) (reverse-cons x xs) ∙ map-append f (reverse xs) (x ∷ []))
