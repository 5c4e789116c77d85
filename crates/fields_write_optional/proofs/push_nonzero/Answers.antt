use Rattle.std.proofs.Common.{arith}
use Rattle.fields_write_bytes.proofs.PushedLaws.{pushed_none, again}
use Rattle.fields_write_bytes.proofs.TreePartsLaws.{zero-none, nonzero-some}
use Rattle.fields_write_optional.proofs.push_nonzero.Goals as goal

pub returns-then-v-eq0 : goal.returns-then-v-eq0
returns-then-v-eq0 c = (again (zero-none _ _ c.if-v-eq0.true) (pushed_none _ _ c.requires.2), omega arith)

pub returns-else-v-eq0 : goal.returns-else-v-eq0
returns-else-v-eq0 c = let w = c.push_int.ensures in (again (nonzero-some _ _ c.if-v-eq0.false) w.0, w.1)
