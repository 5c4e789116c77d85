use mathlib.Core.Path.{refl}
use Rattle.store_local_read.proofs.LocalLaws.{value-length}
use Rattle.store_local_read.proofs.value_at.Goals as goal

pub returns : goal.returns
returns c = (refl, value-length c.args.store.now c.args.i c.entry_at-parts.ensures c.requires.0)
