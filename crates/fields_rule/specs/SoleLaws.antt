-- One item more: what is found, and which numbers still occur at most once.
use Rattle.std.specs.Prelude.{ℕ, ◌≡◌, refl, List, [], ◌∷◌, ◌++◌, Bool, true, false, cond, eqb}
use Rattle.std.proofs.Common.{sym, ap, ◌∙◌}
use Rattle.std.proofs.Math.Option.{none, some}
use Rattle.fields_schema.specs.Tree.{Content, Item, item, find, later}
use Rattle.fields_schema.proofs.OptionLaws.{nothing-some}
use Rattle.fields_rule.specs.Judged.{Sole}

pub find-last : (m n : ℕ) (c : Content) (is : List Item) → find m (is ++ (item n c ∷ [])) ≡ later (find m is) (cond (eqb m n) (some c) none)
find-last m n c [] = refl
find-last m n c (item j d ∷ is) = go (eqb m j) (find-last m n c is)
  where
    go : (t : Bool) → find m (is ++ (item n c ∷ [])) ≡ later (find m is) (cond (eqb m n) (some c) none)
        → cond t (some d) (find m (is ++ (item n c ∷ []))) ≡ later (cond t (some d) (find m is)) (cond (eqb m n) (some c) none)
    go true e = refl
    go false e = e

-- a number that has not come yet is there once
pub sole-snoc : (n m : ℕ) (c : Content) (is : List Item) → (eqb n m ≡ true → find n is ≡ none) → Sole n is → Sole n (is ++ (item m c ∷ []))
sole-snoc n m c [] p o = (λ e. refl, tt)
sole-snoc n m c (item j d ∷ is) p o = (λ e. head e (eqb n m) refl, sole-snoc n m c is (λ e. tail (eqb n j) refl (p e)) o.1)
  where
    tail : (t : Bool) → eqb n j ≡ t → cond t (some d) (find n is) ≡ none → find n is ≡ none
    tail true e q = nothing-some (sym q)
    tail false e q = q

    head : eqb n j ≡ true → (t : Bool) → eqb n m ≡ t → find n (is ++ (item m c ∷ [])) ≡ none
    head e true w = nothing-some (sym (sym (ap (λ t. cond t (some d) (find n is)) e) ∙ p w))
    head e false w = find-last n m c is ∙ ap (λ t. later (find n is) (cond t (some c) none)) w ∙ ap (λ o. later o none) (o.0 e)
