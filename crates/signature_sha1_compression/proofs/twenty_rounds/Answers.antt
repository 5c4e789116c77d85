use Rattle.std.proofs.Common.{arith}
use Rattle.signature_sha1_compression.proofs.Reached.{none, more, all}
use Rattle.signature_sha1_compression.proofs.twenty_rounds.Goals as goal

pub overflow_add-t-end : goal.overflow_add-t-end
overflow_add-t-end g c = let l = c.requires.rounds.low in omega arith

pub loop-t-init : goal.loop-t-init
loop-t-init g c = none _ _ _

pub loop-t-preserved : goal.loop-t-preserved
loop-t-preserved g c =
    let turn = c.before.before.before.before in
    let start = turn.before.before in
    more start.requires.rounds (omega arith) c.g.ensures c.take_word.ensures c.round-v.ensures turn.loop-t.invariant

pub returns : goal.returns
returns g c = all (omega arith) c.loop-t.invariant
