use mathlib.Core.Path.{◌≡◌, ◌∙◌, sym}
use mathlib.Core.Bool.{true, false}
use Rattle.store_layout.specs.Store.{store_good}
use Rattle.bench_store.specs.CallsLaws.{good-store, not-deleted, delete-as}
use Rattle.bench_store.proofs.rt_delete.Goals as goal
use Rattle.bench_store.proofs.rt_delete.Goals.{Else-not-check}

good : (c : Else-not-check) → store_good c.args.store.now ≡ true
good c = sym c.check.ensures ∙ c.if-not-check.false

pub returns-then-not-check : goal.returns-then-not-check
returns-then-not-check c = not-deleted c.args.store.now c.args.key.now (sym c.check.ensures ∙ c.if-not-check.true)

pub delete-requires : goal.delete-requires
delete-requires c = good-store c.args.store.now (good (goal.at.delete-requires c).Else-not-check)

pub returns-then-delete : goal.returns-then-delete
returns-then-delete c = delete-as c.args.store.now c.args.key.now (good (goal.at.returns-then-delete c).Else-not-check) c.delete.ensures.value c.delete.ensures.store_after true c.if-delete.true

pub returns-else-delete : goal.returns-else-delete
returns-else-delete c = delete-as c.args.store.now c.args.key.now (good (goal.at.returns-else-delete c).Else-not-check) c.delete.ensures.value c.delete.ensures.store_after false c.if-delete.false
