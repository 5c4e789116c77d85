use mathlib.Core.Path.{refl}
use Rattle.fields_schema.specs.declared.Kind.TheVariants as k
use Rattle.fields_lookup.proofs.Slotted.{lies-no, no_sub}
use Rattle.request_command.proofs.no_body.Goals as goal

pub returns : goal.returns
returns c s = record {
  keyed = refl;
  entry = c.no_key_value.ensures s;
  ranged = refl;
  range = c.no_range.ensures s;
  changed = refl;
  cluster = refl;
  logged = refl;
  secured = refl;
  lies = lies-no s;
  reads = (no_sub k.Security s).reads;
  security = λ n. no_sub k.Security s;
}
