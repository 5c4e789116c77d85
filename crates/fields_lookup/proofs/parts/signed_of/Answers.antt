use Rattle.std.proofs.Common.{rules}
use mathlib.Core.Path.{◌∙◌}
use Prim.Native.Nat.{◌^◌, ◌<◌}
use Rattle.std.specs.Prelude.{IfSome}
use Rattle.fields_lookup.proofs.Slotted.{signed-is}
use Rattle.fields_lookup.proofs.parts.signed_of.Goals as goal

pub returns : goal.returns
returns c k m l i =
    let q : IfSome c.num_of.result (λ v. v < 2 ^ 64) = (search rules) in
    signed-is c.num_of.result c.map.result q c.map.ensures.cases ∙ c.num_of.ensures k m l i
