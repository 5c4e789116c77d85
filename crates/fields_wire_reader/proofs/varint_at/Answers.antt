use Rattle.std.proofs.Common.{drop, sym}
use Rattle.fields_wire_reader.proofs.FieldPlaces.{varint-of, varint-none, no-found}
use Rattle.fields_wire_reader.proofs.varint_at.Goals as goal

pub returns-in_err-v : goal.returns-in_err-v
returns-in_err-v c =
    let s = c.args.s.now in
    no-found s c.args.at c.from_residual.result c.from_residual.ensures (varint-none _ (drop c.args.at s) (sym c.in_err-v.ensures.0))

pub returns : goal.returns
returns c =
    let e = c.in_ok-v.ensures in
    (varint-of _ (drop c.args.at c.args.s.now) (sym e.0), record { after = e.1.0; inside = e.1.1; bytes = tt })
