use native.Mathlib.Omega.{arith}
use mathlib.Core.Path.{refl}
use Rattle.fields_lookup.proofs.Slotted.{lies-no}
use Rattle.request_parts_merge.proofs.no_key_value.Goals as goal

pub returns : goal.returns
returns c s =
    let l = lies-no s in
    record {
      version = refl;
      key = refl;
      expected = refl;
      tag = refl;
      algorithm = refl;
      metadata = refl;
      force = refl;
      lies = record { version = l; key = l; expected = l; tag = l; algorithm = omega arith };
    }
