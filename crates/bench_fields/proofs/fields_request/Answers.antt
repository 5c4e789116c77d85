use Rattle.bench_fields.specs.HeldLaws.{taken, not_taken}
use Rattle.bench_fields.proofs.fields_request.Goals as goal

pub returns-then-ok : goal.returns-then-ok
returns-then-ok c =
    let q = c.read_request-r in
    let s = c.args.s.now in
    taken c.args.out.now s q.result q.ensures.0 c.if-ok.true (c.numbers.ensures s q.ensures.1)

pub returns : goal.returns
returns c =
    let q = c.read_request-r in
    not_taken c.args.out.now c.args.s.now q.result q.ensures.0 c.if-ok.false
