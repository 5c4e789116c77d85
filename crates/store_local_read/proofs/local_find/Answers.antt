use Rattle.std.specs.Prelude.{Result}
use Prim.Native.Nat.{ℕ, ◌≤◌}
use native.Mathlib.Omega.{arith}
use mathlib.Core.Path.{◌≡◌, ◌∙◌, sym, subst}
use mathlib.Core.Bool.{true}
use Rattle.store_layout.specs.Store.{blocks_in, store_good}
use Rattle.store_layout.specs.Entries.{past_of}
use Rattle.store_local_read.proofs.LocalLaws.{is-bad, good-store, is_found, is-missing}
use Rattle.store_local_read.proofs.local_find.Goals as goal
use Rattle.store_local_read.proofs.local_find.Goals.{After-find}

good : (c : After-find) → store_good c.args.store.now ≡ true
good c = sym c.check.ensures ∙ c.if-not-check.false

pub returns-then-not-check : goal.returns-then-not-check
returns-then-not-check c = is-bad _ _ (sym c.check.ensures ∙ c.if-not-check.true)

pub value_at-requires : goal.value_at-requires
unfolding past_of
value_at-requires c =
    let f = (goal.at.value_at-requires c).After-find in
    let s = c.args in
    let w = subst (λ (o : Result ℕ ℕ). past_of o ≤ blocks_in s.store.now) c.in-Ok.is c.find.ensures.within in
    (good-store s.store.now s.key.now (good f), omega arith)

pub returns-in-Ok : goal.returns-in-Ok
returns-in-Ok c = let f = (goal.at.returns-in-Ok c).After-find in
    let s = c.args in
    is_found s.store.now s.key.now (good f) _ (sym c.in-Ok.is ∙ c.find.ensures.same (good-store s.store.now s.key.now (good f))) c.value_at.ensures.0 c.value_at.ensures.1

pub returns-in-Err : goal.returns-in-Err
returns-in-Err c = let f = (goal.at.returns-in-Err c).After-find in
    let s = c.args in
    is-missing s.store.now s.key.now (good f) _ (sym c.in-Err.is ∙ c.find.ensures.same (good-store s.store.now s.key.now (good f)))
