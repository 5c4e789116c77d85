use Rattle.std.proofs.Common.{arith}
use Rattle.fields_write_varint.specs.GroupsLaws.{one-byte, group-next, group-small, group-last}
use Rattle.fields_write_varint.proofs.push_groups.Goals as goal

pub overflow_sub-k-end : goal.overflow_sub-k-end
overflow_sub-k-end c = omega (arith, one-byte c.args.v)

pub loop-k-preserved : goal.loop-k-preserved
loop-k-preserved c = group-next c.loop-k.invariant c.loop-k.auto.k (omega arith)

pub overflow_cast-out-2 : goal.overflow_cast-out-2
overflow_cast-out-2 c = omega (arith, group-small c.loop-k.invariant c.loop-k.auto.k (omega arith))

pub overflow_sub-out : goal.overflow_sub-out
overflow_sub-out c = omega (arith, one-byte c.args.v)

pub bounds-out-at : goal.bounds-out-at
bounds-out-at c = omega (arith, one-byte c.args.v)

pub returns : goal.returns
returns c = group-last c.loop-k.invariant c.loop-k.auto.k (omega (arith, one-byte c.args.v))
