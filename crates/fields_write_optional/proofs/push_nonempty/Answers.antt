use Rattle.std.proofs.Common.{arith, sym, ◌∙◌}
use borrow.Author.Tests.{eqb-true, eqb-false}
use Rattle.fields_write_bytes.proofs.PushedLaws.{pushed_none, again}
use Rattle.fields_write_bytes.proofs.TreePartsLaws.{empty-none, nonempty-some}
use Rattle.fields_write_optional.proofs.push_nonempty.Goals as goal

pub returns-then-is_empty : goal.returns-then-is_empty
returns-then-is_empty c =
    (again (empty-none c.args.n c.args.src.now (eqb-true _ _ (sym c.is_empty.ensures ∙ c.if-is_empty.true))) (pushed_none _ _ c.requires.2), omega arith)

pub returns-else-is_empty : goal.returns-else-is_empty
returns-else-is_empty c =
    let w = c.push_raw.ensures in
    (again (nonempty-some c.args.n c.args.src.now (eqb-false _ _ (sym c.is_empty.ensures ∙ c.if-is_empty.false))) w.0, w.1)
