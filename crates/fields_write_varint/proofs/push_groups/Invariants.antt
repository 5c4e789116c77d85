use Rattle.std.proofs.Common.{◌-◌}
use Rattle.fields_write_varint.specs.Groups.{Grouping}
use Rattle.fields_write_varint.proofs.push_groups.Given as goal

abbrev pub invariant-loop-k : goal.invariant-loop-k
invariant-loop-k l = Grouping l.at l.v l.initial.out l.p (l.k - l.p) l.rest l.out
