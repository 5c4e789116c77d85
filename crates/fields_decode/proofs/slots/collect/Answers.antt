use Rattle.std.proofs.Common.{arith}
use Rattle.fields_decode.proofs.Walking.{judged-refuse}
use Rattle.fields_decode.proofs.Storing.{going_start, going_end, going-none, going-refused, going-skip, takes-below, going_on}
use Rattle.fields_decode.proofs.slots.collect.Goals as goal

pub loop-at-init : goal.loop-at-init
loop-at-init c = going_start c.args.kind c.args.s.now

pub returns-in_default : goal.returns-in_default
returns-in_default c =
    let a = c.args in
    let o = c.loop-at in
    going-none a.kind a.s.now o.seen o.value o.len o.at o.invariant c.loop-at-test.true c.in_default.ensures.0 c.refused.result c.refused.ensures

pub judge-requires : goal.judge-requires
judge-requires c = c.loop-at.invariant.holds.marks.small

pub returns-in_default-judge : goal.returns-in_default-judge
returns-in_default-judge c =
    let a = c.args in
    let o = c.loop-at in
    let f = c.in-Some in
    let r = c.refused-in_default-judge in
    going-refused a.kind a.s.now o.seen o.value o.len o.at o.invariant f.f f.ensures.0 f.ensures.1 (judged-refuse a.s.now a.kind o.invariant.found f.f c.in_default-judge.field-0 (c.in_default-judge.ensures a.s.now o.at o.invariant.found f.ensures.1 o.invariant.holds.marks)) r.result r.ensures

pub offset_bounds-value-t : goal.offset_bounds-value-t
offset_bounds-value-t c =
    let a = c.args in
    let o = c.loop-at in
    let f = c.in-Some in
    let l = takes-below a.kind a.s.now o.seen o.value o.len o.at o.invariant f.f f.ensures.0 f.ensures.1 c.in-Some-judged.t c.in-Ok.judged c.in-Some-judged.is (c.in-Ok.ensures a.s.now o.at o.invariant.found f.ensures.1 o.invariant.holds.marks) in
    record { fits = omega arith }

pub bounds-value-t : goal.bounds-value-t
bounds-value-t c =
    let a = c.args in
    let o = c.loop-at in
    let f = c.in-Some in
    let l = takes-below a.kind a.s.now o.seen o.value o.len o.at o.invariant f.f f.ensures.0 f.ensures.1 c.in-Some-judged.t c.in-Ok.judged c.in-Some-judged.is (c.in-Ok.ensures a.s.now o.at o.invariant.found f.ensures.1 o.invariant.holds.marks) in
    omega (arith, o.invariant.holds.sized.value)

pub offset_bounds-len-t : goal.offset_bounds-len-t
offset_bounds-len-t c =
    let a = c.args in
    let o = c.loop-at in
    let f = c.in-Some in
    let l = takes-below a.kind a.s.now o.seen o.value o.len o.at o.invariant f.f f.ensures.0 f.ensures.1 c.in-Some-judged.t c.in-Ok.judged c.in-Some-judged.is (c.in-Ok.ensures a.s.now o.at o.invariant.found f.ensures.1 o.invariant.holds.marks) in
    record { fits = omega arith }

pub bounds-len-t : goal.bounds-len-t
bounds-len-t c =
    let a = c.args in
    let o = c.loop-at in
    let f = c.in-Some in
    let l = takes-below a.kind a.s.now o.seen o.value o.len o.at o.invariant f.f f.ensures.0 f.ensures.1 c.in-Some-judged.t c.in-Ok.judged c.in-Some-judged.is (c.in-Ok.ensures a.s.now o.at o.invariant.found f.ensures.1 o.invariant.holds.marks) in
    omega (arith, o.invariant.holds.sized.len)

pub loop-at-preserved : goal.loop-at-preserved
loop-at-preserved c =
    let a = c.args in
    let o = c.loop-at in
    let f = c.in-Some in
    going-skip a.kind a.s.now o.seen o.value o.len o.at o.invariant f.f f.ensures.0 f.ensures.1 c.in-Ok.judged c.in_default-judged.is (c.in-Ok.ensures a.s.now o.at o.invariant.found f.ensures.1 o.invariant.holds.marks)

pub loop-at-preserved-in-Some-judged : goal.loop-at-preserved-in-Some-judged
loop-at-preserved-in-Some-judged c =
    let a = c.args in
    let o = c.loop-at in
    let f = c.in-Some in
    going_on a.kind a.s.now o.seen o.value o.len o.at o.invariant f.f f.ensures.0 f.ensures.1 c.in-Some-judged.t c.in-Ok.judged c.in-Some-judged.is (c.in-Ok.ensures a.s.now o.at o.invariant.found f.ensures.1 o.invariant.holds.marks) c.slot_of-p.result c.slot_of-p.ensures

pub returns : goal.returns
returns c = going_end c.args.kind c.args.s.now c.loop-at.seen c.loop-at.value c.loop-at.len c.loop-at.at c.loop-at.invariant c.loop-at-test.false
