use borrow.Author.Tests.{eq-eqb, not-false}
use Rattle.base_integers.specs.Signed.{word_of}
use Rattle.protocol.specs.Judge.{above}
use Rattle.judge_header.proofs.header.in_order.Goals as goal

pub returns-else-not-connection : goal.returns-else-not-connection
unfolding above
returns-else-not-connection c =
    let a = c.args in
    rw (eq-eqb (word_of a.id) (word_of a.connection.number) c.if-id-connection.true, not-false a.connection.seen c.if-not-connection.false)
