use Rattle.std.proofs.Common.{◌+◌, ◌%◌, arith, ◌∙◌}
use Rattle.fields_wire.proofs.VarintPlaces.{no-varint, place-small, product_small, partial-cut, partial-last, partial-more, nine-low, all-nine, partial-tenth, ends-within}
use Rattle.fields_wire.proofs.varint.long_varint.Goals as goal

pub returns-in_err-b : goal.returns-in_err-b
returns-in_err-b c =
    let a = c.args in
    let o = c.loop-count in
    no-varint a.s.now a.at c.from_residual.result c.from_residual.ensures (partial-cut a.s.now a.at o.value o.place o.count o.invariant c.loop-count-test.true c.in_err-b.ensures.lookup.3)

pub overflow_mul-result : goal.overflow_mul-result
overflow_mul-result c =
    let a = c.args in
    let o = c.loop-count in
    let h = product_small a.s.now a.at o.value o.place o.count o.invariant c.loop-count-test.true c.wide.result (omega (arith, c.wide.ensures.0, c.if-b-lt128.true)) in
    record { fits = omega arith }

pub overflow_add-result : goal.overflow_add-result
overflow_add-result c =
    let a = c.args in
    let o = c.loop-count in
    let h = product_small a.s.now a.at o.value o.place o.count o.invariant c.loop-count-test.true c.wide.result (omega (arith, c.wide.ensures.0, c.if-b-lt128.true)) in
    let p = place-small a.s.now a.at o.value o.place o.count o.invariant c.loop-count-test.true in
    record { fits = omega (arith, o.invariant.low) }

pub returns-then-b-lt128 : goal.returns-then-b-lt128
returns-then-b-lt128 c =
    let a = c.args in
    let o = c.loop-count in
    let h = c.in_ok-b.ensures.lookup.3 in
    (partial-last a.s.now a.at o.value o.place o.count o.invariant c.loop-count-test.true h.0 (c.wide.ensures.0 ∙ h.1 0) (omega (arith, h.1 0, c.if-b-lt128.true)), omega (arith, h.0))

pub overflow_mul-value : goal.overflow_mul-value
overflow_mul-value c =
    let a = c.args in
    let o = c.loop-count in
    let h = product_small a.s.now a.at o.value o.place o.count o.invariant c.loop-count-test.true (c.wide-in-loop-count.result % 128) (omega arith) in
    record { fits = omega arith }

pub overflow_add-value : goal.overflow_add-value
overflow_add-value c =
    let a = c.args in
    let o = c.loop-count in
    let h = product_small a.s.now a.at o.value o.place o.count o.invariant c.loop-count-test.true (c.wide-in-loop-count.result % 128) (omega arith) in
    let p = place-small a.s.now a.at o.value o.place o.count o.invariant c.loop-count-test.true in
    record { fits = omega (arith, o.invariant.low) }

pub overflow_mul-place : goal.overflow_mul-place
overflow_mul-place c =
    let a = c.args in
    let o = c.loop-count in
    let p = place-small a.s.now a.at o.value o.place o.count o.invariant c.loop-count-test.true in
    record { fits = omega arith }

pub loop-count-preserved : goal.loop-count-preserved
loop-count-preserved c =
    let a = c.args in
    let o = c.loop-count in
    let h = c.in_ok-b.ensures.lookup.3 in
    partial-more a.s.now a.at o.value o.place o.count o.invariant c.loop-count-test.true h.0 (c.wide-in-loop-count.ensures.0 ∙ h.1 0) (omega (arith, h.1 0, c.if-b-lt128.false))

pub tenth_byte-requires : goal.tenth_byte-requires
tenth_byte-requires c =
    let a = c.args in
    let o = c.loop-count in
    nine-low a.s.now a.at o.value o.place (all-nine a.s.now a.at o.value o.place o.count o.invariant c.loop-count-test.false o.auto.count-end)

pub returns : goal.returns
returns c =
    let a = c.args in
    let o = c.loop-count in
    let n = all-nine a.s.now a.at o.value o.place o.count o.invariant c.loop-count-test.false o.auto.count-end in
    (partial-tenth a.s.now a.at o.value o.place n c.tenth_byte.ensures.0, ends-within a.s.now a.at (a.at + 9) c.tenth_byte.result (omega arith) c.tenth_byte.ensures.1)
