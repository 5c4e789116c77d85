use Rattle.std.proofs.Common.{arith, ◌∙◌}
use Rattle.fields_wire.proofs.VarintPlaces.{no-varint, at-end, one_byte}
use Rattle.fields_wire.proofs.varint.read_varint.Goals as goal

pub returns-in_err-b : goal.returns-in_err-b
returns-in_err-b c = let a = c.args in no-varint a.s.now a.at c.from_residual.result c.from_residual.ensures (at-end 10 a.s.now a.at c.in_err-b.ensures.lookup.3)

pub returns-then-b-lt128 : goal.returns-then-b-lt128
returns-then-b-lt128 c =
    let a = c.args in
    let h = c.in_ok-b.ensures.lookup.3 in
    (one_byte a.s.now a.at h.0 (c.wide.ensures.0 ∙ h.1 0) (omega (arith, h.1 0, c.if-b-lt128.true)), omega (arith, h.0))
