use borrow.Author.Tests.{not-true, not-false}
use Rattle.c_connection.proofs.Steps.{stays_open, closed-before, closed-now}
use Rattle.c_connection.proofs.write.close.Goals as goal

pub returns-then-not-closed : goal.returns-then-not-closed
returns-then-not-closed c = let z = c.args in stays_open z.bytes.now z.closed c.if-not-closed.true

pub returns-then-bytes-ne0 : goal.returns-then-bytes-ne0
returns-then-bytes-ne0 c = let z = c.args in closed-before z.bytes.now z.closed c.if-not-closed.false c.if-bytes-ne0.true

pub returns : goal.returns
returns c = let z = c.args in closed-now z.bytes.now z.closed c.if-not-closed.false c.if-bytes-ne0.false
