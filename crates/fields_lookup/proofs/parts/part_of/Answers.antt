use native.Mathlib.Omega.{arith}
use Rattle.fields_lookup.proofs.Slotted.{part-fits, part-is, part_no}
use Rattle.fields_lookup.proofs.parts.part_of.Goals as goal

pub overflow_add-result : goal.overflow_add-result
overflow_add-result c = let b = c.marked in let f = part-fits c.args.s.now c.args.p c.args.t c.args.n c.requires.2 b.result b.ensures c.if-marked.true c.requires.3 in record { fits = omega arith }

pub returns-then-marked : goal.returns-then-marked
returns-then-marked c = let b = c.marked in part-is c.args.s.now c.args.p c.args.t c.args.n c.requires.2 b.result b.ensures c.if-marked.true c.requires.3

pub returns : goal.returns
returns c = let b = c.marked in part_no c.args.s.now c.args.p c.args.t c.args.n c.requires.2 b.result b.ensures c.if-marked.false
