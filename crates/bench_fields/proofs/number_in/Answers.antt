use Rattle.bench_fields.proofs.number_in.Goals as goal

pub returns-then-there : goal.returns-then-there
returns-then-there c = rw c.if-there.true c.number_or.ensures
