use Rattle.std.proofs.Common.{arith, ◌∙◌}
use Rattle.fields_wire.proofs.VarintPlaces.{no-varint, tenth-cut, tenth-is, tenth-wrong}
use Rattle.fields_wire.proofs.varint.tenth_byte.Goals as goal

pub returns-in_err-b : goal.returns-in_err-b
returns-in_err-b c = let a = c.args in no-varint a.s.now a.at c.from_residual.result c.from_residual.ensures (tenth-cut a.s.now a.at a.low c.in_err-b.ensures.lookup.3)

pub returns-then-b-lt2 : goal.returns-then-b-lt2
returns-then-b-lt2 c =
    let a = c.args in
    let h = c.in_ok-b.ensures.lookup.3 in
    (tenth-is a.s.now a.at a.low h.0 (c.wide.ensures.0 ∙ h.1 0) (omega (arith, h.1 0, c.if-b-lt2.true)), omega (arith, h.0))

pub returns : goal.returns
returns c = let a = c.args in let h = c.in_ok-b.ensures.lookup.3 in (tenth-wrong a.s.now a.at a.low h.0 (omega (arith, h.1 0, c.if-b-lt2.false)), tt)
