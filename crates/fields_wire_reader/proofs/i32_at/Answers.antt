use Rattle.std.proofs.Common.{arith, refl}
use Rattle.fields_wire_reader.proofs.FieldPlaces.{i32-of, i32-cut}
use Rattle.fields_wire_reader.proofs.i32_at.Goals as goal

pub returns-then-s-at-ge4 : goal.returns-then-s-at-ge4
returns-then-s-at-ge4 c =
    let s = c.args.s.now in
    (i32-of _ s c.args.at c.if-s-at-ge4.true, record { after = omega arith; inside = omega (arith, c.if-s-at-ge4.true); bytes = refl })

pub returns : goal.returns
returns c = (i32-cut _ c.args.s.now c.args.at c.if-s-at-ge4.false, tt)
