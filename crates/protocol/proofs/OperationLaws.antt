-- What holds of every row of the table holds of what any number asks for.
use Rattle.std.specs.Prelude.{◌≡◌, Bool, cond, ◌&&◌, ℕ, eqb, None, Some}
use Rattle.std.proofs.Math.Path.{refl}
use Rattle.std.proofs.Math.Bool.{true, false}
use mathlib.Core.List.{List, [], ◌∷◌}
use Rattle.base_definitions.specs.Lists.{all}
use Rattle.fields_encoding.proofs.BasicLaws.{never}
use Rattle.protocol.specs.Operation.{Asked, Row, rows, chosen, asked_in, asked}

module _ (f : Asked → Bool) where
  among-rows : (rs : List Row) → all (λ r. f (Some (chosen r))) rs ≡ true → f None ≡ true → (n : ℕ) → f (asked_in rs n) ≡ true
  unfolding all asked_in
  among-rows [] e none n = none
  among-rows (r ∷ rs) e none n = go (f (Some (chosen r))) refl e (λ e. among-rows rs e none n) (eqb n r.type)
    where
      go : (t : Bool) → f (Some (chosen r)) ≡ t → (t && all (λ r. f (Some (chosen r))) rs) ≡ true
          → (all (λ r. f (Some (chosen r))) rs ≡ true → f (asked_in rs n) ≡ true) → (b : Bool) → f (cond b (Some (chosen r)) (asked_in rs n)) ≡ true
      go true q e ih true = q
      go true q e ih false = ih e
      go false q e ih b = never (cc)

  pub asked-all : all (λ r. f (Some (chosen r))) rows ≡ true → f None ≡ true → (n : ℕ) → f (asked n) ≡ true
  unfolding asked
  asked-all e none n = among-rows rows e none n
