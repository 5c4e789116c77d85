use mathlib.Core.Path.{refl}
use Rattle.fields_lookup.proofs.Slotted.{lies-no}
use Rattle.request_message.proofs.no_auth.Goals as goal

pub returns : goal.returns
returns c s = record { identity = refl; hmac = refl; lies = lies-no s }
