use Rattle.fields_wire.proofs.VarintPlaces.{Partial}
use Rattle.fields_wire.proofs.varint.long_varint.Given as goal

abbrev pub invariant-loop-count : goal.invariant-loop-count
invariant-loop-count l = Partial l.s l.at l.value l.place l.count
