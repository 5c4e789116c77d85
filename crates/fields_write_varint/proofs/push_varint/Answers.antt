use Rattle.std.proofs.Common.{arith}
use Rattle.fields_write_varint.specs.GroupsLaws.{one-byte, pushed-one, varint-from}
use Rattle.fields_write_varint.proofs.push_varint.Goals as goal

pub returns-then-v-ge128 : goal.returns-then-v-ge128
returns-then-v-ge128 c = let w = c.push_groups.ensures in (w, varint-from _ c.ranges.v.fits w)

pub push_byte-requires : goal.push_byte-requires
push_byte-requires c = omega (arith, one-byte c.args.v)

pub returns-else-v-ge128 : goal.returns-else-v-ge128
returns-else-v-ge128 c = (pushed-one _ c.if-v-ge128.false c.push_byte.ensures, omega arith)
