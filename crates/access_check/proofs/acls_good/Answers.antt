use Prim.Native.Nat.{ℕ, ◌+◌, ◌*◌, ◌-◌}
use mathlib.Core.Bool.{Bool, true, false, not}
use mathlib.Core.Path.{◌≡◌, ◌∙◌, sym, refl, ap}
use Rattle.std.specs.Prelude.{Option, Some, None, is_some}
use Rattle.base_integers.specs.SignedLaws.{word_kept}
use Rattle.access_record.specs.Table.{acls_good, is_nobody, find_from}
use Rattle.access_record.specs.Record.{acls_at, word_at}
use Rattle.access_record.proofs.TableLaws.{stops, goes, acls-first, acls-next, acls-test, acls-end}
use Rattle.access_record.specs.Places.{others}
use Rattle.access_check.proofs.acls_good.Goals as goal
use Rattle.access_check.proofs.acls_good.Goals.{After-find_from}

-- what is left of the rule past the ACL at hand, and that nobody else has its identity
rest : (c : After-find_from)
    → others c.args.device.now (16 + c.loop-k.k * 368) (c.args.n - c.loop-k.k) ≡ acls_good (acls_at c.args.device.now 16 c.args.n)
rest c = goes (acls-test _ _ _ _ c.loop-k-test.true) c.loop-k.invariant (sym c.acl_good.ensures ∙ c.if-not-acl_good.false)

alone : (c : After-find_from)
    → is_nobody (find_from 0 (word_at c.args.device.now (16 + c.loop-k.k * 368)) (acls_at c.args.device.now (16 + c.loop-k.k * 368 + 368) (c.args.n - c.loop-k.k - 1)))
    ≡ is_nobody c.find_from.result
alone c =
    ap (λ (w : ℕ). is_nobody (find_from 0 w (acls_at c.args.device.now (16 + c.loop-k.k * 368 + 368) (c.args.n - c.loop-k.k - 1)))) (sym (word_kept c.signed_at-identity.result c.signed_at-identity.type_inv ∙ c.signed_at-identity.ensures))
    ∙ ap is_nobody (sym c.find_from.ensures)

nobody : (place : Option ℕ) {found : Bool} → found ≡ is_some place → is_nobody place ≡ not found
nobody None e = sym (ap not e)
nobody (Some i) e = sym (ap not e)

pub loop-k-init : goal.loop-k-init
loop-k-init c = ap acls_good (acls-first _ _ _)

pub returns-then-not-acl_good : goal.returns-then-not-acl_good
returns-then-not-acl_good c =
    stops _ (acls-test _ _ _ _ c.loop-k-test.true) c.loop-k.invariant (sym c.acl_good.ensures ∙ c.if-not-acl_good.true)

pub loop-k-preserved : goal.loop-k-preserved
loop-k-preserved c =
    sym (ap acls_good (acls-next _ _ _ _))
    ∙ goes refl (rest (goal.at.loop-k-preserved c).After-find_from) (alone (goal.at.loop-k-preserved c).After-find_from ∙ nobody _ c.is_some.ensures ∙ ap not c.if-is_some.false)

pub returns-then-is_some : goal.returns-then-is_some
returns-then-is_some c =
    stops _ refl (rest (goal.at.returns-then-is_some c).After-find_from)
    (alone (goal.at.returns-then-is_some c).After-find_from ∙ nobody _ c.is_some.ensures ∙ ap not c.if-is_some.true)

pub returns : goal.returns
returns c = sym (acls-end _ _ _ _ c.loop-k-test.false) ∙ c.loop-k.invariant
