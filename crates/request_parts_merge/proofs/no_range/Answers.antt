use mathlib.Core.Path.{refl}
use Rattle.fields_lookup.proofs.Slotted.{lies-no}
use Rattle.request_parts_merge.proofs.no_range.Goals as goal

pub returns : goal.returns
returns c s = record { start = refl; end = refl; first = refl; last = refl; limit = refl; reverse = refl; lies = record { start = lies-no s; end = lies-no s } }
