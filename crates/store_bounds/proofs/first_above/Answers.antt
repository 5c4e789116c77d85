use native.Mathlib.Omega.{arith}
use mathlib.Core.Path.{◌∙◌, ap, sym}
use Rattle.store_layout.specs.Entries.{past_of}
use Rattle.store_bounds.specs.PlacesLaws.{above_place}
use Rattle.store_bounds.proofs.first_above.Goals as goal

-- the place past a key that was found is inside the store
pub overflow_add-result : goal.overflow_add-result
unfolding past_of
overflow_add-result c = let w = c.find.ensures.within in let e = ap past_of c.in-Ok.is in omega arith

pub returns-in-Ok : goal.returns-in-Ok
unfolding past_of
returns-in-Ok c = λ g. ap past_of (sym c.in-Ok.is) ∙ above_place _ _ _ c.find.ensures g

pub returns-in-Err : goal.returns-in-Err
unfolding past_of
returns-in-Err c = λ g. ap past_of (sym c.in-Err.is) ∙ above_place _ _ _ c.find.ensures g
