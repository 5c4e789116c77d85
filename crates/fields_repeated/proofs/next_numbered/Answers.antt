use Rattle.fields_repeated.proofs.Seeking.{seek-start, seek-end, seek-none, seek-on, seek_found}
use Rattle.fields_repeated.proofs.next_numbered.Goals as goal

pub loop-at-init : goal.loop-at-init
loop-at-init c = seek-start c.args.s.now c.args.n

pub returns-in_err-f : goal.returns-in_err-f
returns-in_err-f c =
    let a = c.args in
    let o = c.loop-at in
    seek-none a.s.now a.n o.at o.invariant c.loop-at-test.true c.in_err-f.ensures.0 c.from_residual.result c.from_residual.ensures

pub returns-then-f-n : goal.returns-then-f-n
returns-then-f-n c =
    let a = c.args in
    let o = c.loop-at in
    let f = c.in_ok-f in
    seek_found a.s.now a.n o.at o.invariant f.f f.ensures.0 f.ensures.1 c.if-f-n.true

pub loop-at-preserved : goal.loop-at-preserved
loop-at-preserved c =
    let a = c.args in
    let o = c.loop-at in
    let f = c.in_ok-f in
    seek-on a.s.now a.n o.at o.invariant f.f f.ensures.0 f.ensures.1 c.if-f-n.false

pub returns : goal.returns
returns c = seek-end c.args.s.now c.args.n c.loop-at.at c.loop-at.invariant c.loop-at-test.false
