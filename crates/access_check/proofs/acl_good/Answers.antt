use mathlib.Core.Path.{◌∙◌, sym}
use borrow.Author.Tests.{lt-leb, le-leb}
use Rattle.access_record.proofs.TableLaws.{acl-test}
use Rattle.access_check.proofs.acl_good.Goals as goal

pub returns-then-k-lt1 : goal.returns-then-k-lt1
returns-then-k-lt1 c = sym (acl-test _ _ c.wide-n.ensures.0 ∙ simp (lt-leb _ _ c.if-k-lt1.true))

pub returns-then-k-gt64 : goal.returns-then-k-gt64
returns-then-k-gt64 c = sym (acl-test _ _ c.wide-n.ensures.0 ∙ simp (le-leb _ _ c.if-k-lt1.false, lt-leb _ _ c.if-k-gt64.true))

pub returns-then-n-lt1 : goal.returns-then-n-lt1
returns-then-n-lt1 c = sym (acl-test _ _ c.wide-n.ensures.0 ∙ simp (le-leb _ _ c.if-k-lt1.false, le-leb _ _ c.if-k-gt64.false, lt-leb _ _ c.if-n-lt1.true))

pub returns-then-n-gt4 : goal.returns-then-n-gt4
returns-then-n-gt4 c =
    sym
    (acl-test _ _ c.wide-n.ensures.0
    ∙ simp (le-leb _ _ c.if-k-lt1.false, le-leb _ _ c.if-k-gt64.false, le-leb _ _ c.if-n-lt1.false, lt-leb _ _ c.if-n-gt4.true))

pub returns : goal.returns
returns c =
    c.scopes_good.ensures
    ∙ sym
    (acl-test _ _ c.wide-n.ensures.0
    ∙ simp (le-leb _ _ c.if-k-lt1.false, le-leb _ _ c.if-k-gt64.false, le-leb _ _ c.if-n-lt1.false, le-leb _ _ c.if-n-gt4.false))
