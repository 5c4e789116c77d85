use borrow.Author.Tests.{not-true, not-false}
use mathlib.Core.Path.{sym, ◌∙◌}
use Rattle.request_scope.specs.Stands.{acls_in}
use Rattle.judge_body.proofs.Parts.{no-security, rules-broken, other-algorithm, security-right}
use Rattle.judge_body.proofs.security_fault.Goals as goal

pub returns-then-not-security : goal.returns-then-not-security
returns-then-not-security c =
    let a = c.args in
    no-security a.security.has (acls_in a.command.now a.security) (not-true a.security.has c.if-not-security.true)

pub returns-then-not-security_table : goal.returns-then-not-security_table
returns-then-not-security_table c =
    let a = c.args in
    let t = c.security_table in
    rules-broken a.security.has (acls_in a.command.now a.security) (not-false a.security.has c.if-not-security.false)
    (sym t.ensures.answer ∙ c.if-not-security_table.true)

pub returns-then-not-algorithms_good : goal.returns-then-not-algorithms_good
returns-then-not-algorithms_good c =
    let a = c.args in
    let t = c.security_table in
    let g = c.algorithms_good in
    other-algorithm a.security.has (acls_in a.command.now a.security) (not-false a.security.has c.if-not-security.false)
    (sym t.ensures.answer ∙ c.if-not-security_table.false)
    (sym g.ensures ∙ c.if-not-algorithms_good.true)

pub returns : goal.returns
returns c =
    let a = c.args in
    let t = c.security_table in
    let g = c.algorithms_good in
    security-right a.security.has (acls_in a.command.now a.security) (not-false a.security.has c.if-not-security.false)
    (sym t.ensures.answer ∙ c.if-not-security_table.false)
    (sym g.ensures ∙ c.if-not-algorithms_good.false)
