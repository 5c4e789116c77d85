use mathlib.Core.Path.{◌∙◌, sym}
use borrow.Author.Tests.{lt-leb, le-leb}
use Rattle.access_record.proofs.TableLaws.{table-test}
use Rattle.access_check.proofs.record_good.Goals as goal

pub returns-then-n-lt1 : goal.returns-then-n-lt1
returns-then-n-lt1 c = sym (table-test _ c.wide-n.ensures.0 ∙ simp (lt-leb _ _ c.if-n-lt1.true))

pub returns-then-n-gt8 : goal.returns-then-n-gt8
returns-then-n-gt8 c = sym (table-test _ c.wide-n.ensures.0 ∙ simp (le-leb _ _ c.if-n-lt1.false, lt-leb _ _ c.if-n-gt8.true))

pub returns : goal.returns
returns c =
    c.acls_good.ensures
    ∙ sym (table-test _ c.wide-n.ensures.0 ∙ simp (le-leb _ _ c.if-n-lt1.false, le-leb _ _ c.if-n-gt8.false))
