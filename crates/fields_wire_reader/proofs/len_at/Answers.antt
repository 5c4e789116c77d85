use Rattle.std.proofs.Common.{drop, sym, arith, refl}
use Rattle.fields_wire_reader.proofs.FieldPlaces.{len_of, len-none, len-cut, no-found}
use Rattle.fields_wire_reader.proofs.len_at.Goals as goal

pub returns-in_err-v : goal.returns-in_err-v
returns-in_err-v c =
    let s = c.args.s.now in
    no-found s c.args.at c.from_residual.result c.from_residual.ensures (len-none _ (drop c.args.at s) (sym c.in_err-v.ensures.0))

pub returns-then-len-s : goal.returns-then-len-s
returns-then-len-s c =
    let s = c.args.s.now in
    let v = c.in_ok-v in
    let e = v.ensures in (
      len_of _ s (drop c.args.at s) v.v.next (sym e.0) c.if-len-s.true,
      record { after = omega (arith, e.1.0); inside = omega (arith, e.1.1, c.if-len-s.true); bytes = (refl, e.1.0) },
    )

pub returns : goal.returns
returns c =
    let s = c.args.s.now in
    (len-cut _ s (drop c.args.at s) c.in_ok-v.v.next (sym c.in_ok-v.ensures.0) c.if-len-s.false, tt)
