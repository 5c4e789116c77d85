use mathlib.Core.Path.{refl}
use Rattle.base_definitions.specs.Bits.{bit}
use Rattle.fields_rule.proofs.marked.Goals as goal

pub returns : goal.returns
unfolding bit
returns c = refl
