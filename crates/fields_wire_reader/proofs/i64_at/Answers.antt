use Rattle.std.proofs.Common.{arith}
use Rattle.fields_wire_reader.proofs.FieldPlaces.{i64-of, i64-cut}
use Rattle.fields_wire_reader.proofs.i64_at.Goals as goal

pub returns-then-s-at-ge8 : goal.returns-then-s-at-ge8
returns-then-s-at-ge8 c =
    let s = c.args.s.now in
    (i64-of _ s c.args.at c.if-s-at-ge8.true, record { after = omega arith; inside = omega (arith, c.if-s-at-ge8.true); bytes = tt })

pub returns : goal.returns
returns c = (i64-cut _ c.args.s.now c.args.at c.if-s-at-ge8.false, tt)
