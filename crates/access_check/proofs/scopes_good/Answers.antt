use mathlib.Core.Path.{◌∙◌, sym, ap}
use Rattle.base_definitions.specs.Lists.{all}
use Rattle.access_record.specs.Table.{scope_good}
use Rattle.access_record.proofs.TableLaws.{stops, goes, scopes-first, scopes-test, scopes-end}
use Rattle.access_check.proofs.scopes_good.Goals as goal

pub loop-k-init : goal.loop-k-init
loop-k-init c = ap (all scope_good) (scopes-first _ _ _)

pub returns-then-not-scope_good : goal.returns-then-not-scope_good
returns-then-not-scope_good c =
    stops _ (scopes-test _ _ _ _ c.loop-k-test.true) c.loop-k.invariant (sym c.scope_good.ensures ∙ c.if-not-scope_good.true)

pub loop-k-preserved : goal.loop-k-preserved
loop-k-preserved c =
    goes (scopes-test _ _ _ _ c.loop-k-test.true) c.loop-k.invariant (sym c.scope_good.ensures ∙ c.if-not-scope_good.false)

pub returns : goal.returns
returns c = sym (scopes-end _ _ _ _ c.loop-k-test.false) ∙ c.loop-k.invariant
