use mathlib.Core.Path.{sym, ap}
use Rattle.protocol.specs.Operation.{asked, asked_in}
use Rattle.judge_header.proofs.MessageTypeLaws.{not-built}
use borrow.Author.Rules.{rules}
use Rattle.judge_header.proofs.message_type.asked.Goals as goal

pub returns-in-2 : goal.returns-in-2
unfolding asked asked_in
returns-in-2 c = sym (ap asked c.in-2.is)

pub returns-in-4 : goal.returns-in-4
unfolding asked asked_in
returns-in-4 c = sym (ap asked c.in-4.is)

pub returns-in-6 : goal.returns-in-6
unfolding asked asked_in
returns-in-6 c = sym (ap asked c.in-6.is)

pub returns-in-8 : goal.returns-in-8
unfolding asked asked_in
returns-in-8 c = sym (ap asked c.in-8.is)

pub returns-in-10 : goal.returns-in-10
unfolding asked asked_in
returns-in-10 c = sym (ap asked c.in-10.is)

pub returns-in-12 : goal.returns-in-12
unfolding asked asked_in
returns-in-12 c = sym (ap asked c.in-12.is)

pub returns-in-16 : goal.returns-in-16
unfolding asked asked_in
returns-in-16 c = sym (ap asked c.in-16.is)

pub returns-in-22 : goal.returns-in-22
unfolding asked asked_in
returns-in-22 c = sym (ap asked c.in-22.is)

pub returns-in-24 : goal.returns-in-24
unfolding asked asked_in
returns-in-24 c = sym (ap asked c.in-24.is)

pub returns-in-26 : goal.returns-in-26
unfolding asked asked_in
returns-in-26 c = sym (ap asked c.in-26.is)

pub returns-in-30 : goal.returns-in-30
unfolding asked asked_in
returns-in-30 c = sym (ap asked c.in-30.is)

pub returns-in-32 : goal.returns-in-32
unfolding asked asked_in
returns-in-32 c = sym (ap asked c.in-32.is)

pub returns-in_default : goal.returns-in_default
returns-in_default c = not-built c.args.n (search rules) (search rules) (search rules) (search rules) (search rules) (search rules) (search rules) (search rules) (search rules) (search rules) (search rules) (search rules)
