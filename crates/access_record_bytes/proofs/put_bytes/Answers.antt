use mathlib.Core.Path.{refl}
use Rattle.access_record_bytes.specs.WroteLaws.{wrote-part}
use Rattle.access_record_bytes.proofs.put_bytes.Goals as goal

pub returns : goal.returns
returns c = wrote-part _ _ _ c.copy_from_slice.ensures.after refl c.requires
