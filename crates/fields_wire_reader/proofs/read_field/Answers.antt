use Rattle.std.proofs.Common.{drop, sym, arith}
use Rattle.fields_wire_reader.proofs.FieldPlaces.{field_of, field-none, field-refused, ends-later, no-found}
use Rattle.fields_wire_reader.proofs.read_field.Goals as goal

pub returns-in_err-tag : goal.returns-in_err-tag
returns-in_err-tag c =
    let s = c.args.s.now in
    no-found s c.args.at c.from_residual.result c.from_residual.ensures (field-none (drop c.args.at s) (sym c.in_err-tag.ensures.0))

pub returns-then-tag-lt-LEAST_TAG : goal.returns-then-tag-lt-LEAST_TAG
returns-then-tag-lt-LEAST_TAG c = (field-refused (drop c.args.at c.args.s.now) (sym c.in_ok-tag.ensures.0) c.then-tag-lt-LEAST_TAG.either, tt)

pub returns : goal.returns
returns c =
    let s = c.args.s.now in
    let e = c.in_ok-tag.ensures in (
      field_of (drop c.args.at s) (sym e.0) c.if-tag-ge-TAGS_END.false (omega (arith, c.if-tag-lt-LEAST_TAG.false)) c.value_at.ensures.0,
      ends-later s c.args.at c.in_ok-tag.tag.next c.value_at.result (omega (arith, e.1)) c.value_at.ensures.1,
    )
