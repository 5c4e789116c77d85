use Rattle.std.proofs.Common.{drop, rules}
use Rattle.fields_wire_reader.proofs.FieldPlaces.{no-wire}
use Rattle.fields_wire_reader.proofs.value_at.Goals as goal

pub returns-in_default : goal.returns-in_default
returns-in_default c = (no-wire c.args.number c.args.wire (drop c.args.at c.args.s.now) (search rules) (search rules) (search rules) (search rules), tt)
