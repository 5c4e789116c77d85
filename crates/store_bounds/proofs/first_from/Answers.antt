use mathlib.Core.Path.{◌∙◌, ap, sym}
use Rattle.store_layout.specs.Entries.{place_of}
use Rattle.store_bounds.specs.PlacesLaws.{from_place}
use Rattle.store_bounds.proofs.first_from.Goals as goal

pub returns-in-Ok : goal.returns-in-Ok
unfolding place_of
returns-in-Ok c = λ g. ap place_of (sym c.in-Ok.is) ∙ from_place _ _ _ c.find.ensures g

pub returns-in-Err : goal.returns-in-Err
unfolding place_of
returns-in-Err c = λ g. ap place_of (sym c.in-Err.is) ∙ from_place _ _ _ c.find.ensures g
