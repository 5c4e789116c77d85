use mathlib.Core.Path.{sym, subst}
use Rattle.fields_lookup.specs.Views.{NumIs}
use Rattle.fields_lookup.proofs.Slotted.{num-is}
use Rattle.fields_lookup.proofs.parts.num_of.Goals as goal

pub returns : goal.returns
returns c = let a = c.args in let b = c.marked in subst (NumIs a.t a.n) (sym c.then_some.ensures) (num-is a.t a.n b.result b.ensures)
