use Rattle.std.proofs.Common.{arith, sym, ◌∙◌}
use Rattle.fields_decode.proofs.Walking.{judged-refuse}
use Rattle.fields_decode.proofs.Nesting.{reading-start, reading-end, reading-none, reading-refused, reading-skip, takes, reading-on, reading-shut, shorter}
use Rattle.fields_decode.proofs.nested.+opens_reads.Goals as goal

pub opens-reads-requires : goal.opens-reads-requires
opens-reads-requires t c = let i = c.in-Inside in let h = shorter c.args.s.now c.args.what i.kind i.start i.len i.is c.requires in (omega arith, tt)

pub reads-loop-at-init : goal.reads-loop-at-init
reads-loop-at-init t c = reading-start c.args.kind c.args.s.now

pub reads-returns-in_default : goal.reads-returns-in_default
reads-returns-in_default t c =
    let a = c.args in
    let o = c.loop-at in
    reading-none a.kind a.s.now o.seen o.at o.invariant c.loop-at-test.true c.in_default.ensures.0

pub reads-judge-requires : goal.reads-judge-requires
reads-judge-requires t c = c.loop-at.invariant.marks.small

pub reads-returns-in-Err : goal.reads-returns-in-Err
reads-returns-in-Err t c =
    let a = c.args in
    let o = c.loop-at in
    let f = c.in-Some in
    reading-refused a.kind a.s.now o.seen o.at o.invariant f.f f.ensures.0 f.ensures.1 (judged-refuse a.s.now a.kind o.invariant.found f.f c.in-Err.field-0 (c.in-Err.ensures a.s.now o.at o.invariant.found f.ensures.1 o.invariant.marks))

pub reads-opens-requires : goal.reads-opens-requires
reads-opens-requires t c =
    let a = c.args in
    let o = c.loop-at in
    let f = c.in-Some in
    let y = takes a.kind a.s.now o.seen o.at o.invariant f.f f.ensures.0 f.ensures.1 c.in-Some-judged.t c.in-Ok.judged c.in-Some-judged.is (c.in-Ok.ensures a.s.now o.at o.invariant.found f.ensures.1 o.invariant.marks) in
    (omega (arith, c.loop-at-test.true), y.inside)

pub reads-returns-then-not-opens : goal.reads-returns-then-not-opens
reads-returns-then-not-opens t c =
    let a = c.args in
    let o = c.loop-at in
    let f = c.in-Some in
    reading-shut a.kind a.s.now o.seen o.at o.invariant f.f f.ensures.0 f.ensures.1 c.in-Some-judged.t c.in-Ok.judged c.in-Some-judged.is (c.in-Ok.ensures a.s.now o.at o.invariant.found f.ensures.1 o.invariant.marks) (sym c.opens.ensures ∙ c.if-not-opens.true)

pub reads-loop-at-preserved : goal.reads-loop-at-preserved
reads-loop-at-preserved t c =
    let a = c.args in
    let o = c.loop-at in
    let f = c.in-Some in
    reading-skip a.kind a.s.now o.seen o.at o.invariant f.f f.ensures.0 f.ensures.1 c.in-Ok.judged c.in_default-judged.is (c.in-Ok.ensures a.s.now o.at o.invariant.found f.ensures.1 o.invariant.marks)

pub reads-loop-at-preserved-else-not-opens : goal.reads-loop-at-preserved-else-not-opens
reads-loop-at-preserved-else-not-opens t c =
    let a = c.args in
    let o = c.loop-at in
    let f = c.in-Some in
    reading-on a.kind a.s.now o.seen o.at o.invariant f.f f.ensures.0 f.ensures.1 c.in-Some-judged.t c.in-Ok.judged c.in-Some-judged.is (c.in-Ok.ensures a.s.now o.at o.invariant.found f.ensures.1 o.invariant.marks) (sym c.opens.ensures ∙ c.if-not-opens.false)

pub reads-returns : goal.reads-returns
reads-returns t c = reading-end c.args.kind c.args.s.now c.loop-at.seen c.loop-at.at c.loop-at.invariant c.loop-at-test.false
