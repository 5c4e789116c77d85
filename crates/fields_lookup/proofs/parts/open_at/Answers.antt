use Rattle.fields_lookup.proofs.Slotted.{opened}
use Rattle.fields_lookup.proofs.parts.open_at.Goals as goal

pub returns : goal.returns
returns c = let a = c.args in opened a.s.now a.p a.kind c.collect.result c.collect.ensures
