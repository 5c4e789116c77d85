-- `fields_decode::nested::opens` and `reads` call one another: the measure is twice the length, one less in `opens`.
use Rattle.std.proofs.Common.{length, ◌-◌, ◌*◌}
use Rattle.fields_decode.proofs.Nesting.{Reading}
use Rattle.fields_decode.proofs.nested.+opens_reads.Given as goal

abbrev pub decreases-opens : goal.decreases-opens
decreases-opens l = 2 * length l.s.now - 1

abbrev pub decreases-reads : goal.decreases-reads
decreases-reads l = 2 * length l.s.now

abbrev pub invariant-reads-loop-at : goal.invariant-reads-loop-at
invariant-reads-loop-at l = Reading l.kind l.s l.seen l.at

abbrev pub decreases-reads-loop-at : goal.decreases-reads-loop-at
decreases-reads-loop-at l = length l.s - l.at
