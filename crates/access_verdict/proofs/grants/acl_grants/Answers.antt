use Prim.Native.Nat.{ℕ, ◌+◌, ◌*◌}
use mathlib.Core.Path.{◌∙◌, sym, ap}
use native.Mathlib.Omega.{arith}
use Rattle.base_definitions.specs.Lists.{all, any}
use Rattle.access_record.specs.Table.{scope_good}
use Rattle.access_record.specs.Record.{scopes_at, scope_at, acl_at}
use Rattle.access_record.proofs.TableLaws.{stops-yes, goes-yes, both-fst, both-snd, scopes-first, scopes-test, any-turn, any-end, below-eight, place-of}
use Rattle.access_permission.specs.Permission.{grants}
use borrow.Author.Rules.{rules}
use Rattle.access_verdict.proofs.grants.acl_grants.Goals as goal

pub overflow_mul-a : goal.overflow_mul-a
overflow_mul-a c = let h = below-eight _ _ c.requires.0.below c.requires.0.good in omega arith

pub overflow_add-a : goal.overflow_add-a
overflow_add-a c = let h = below-eight _ _ c.requires.0.below c.requires.0.good in omega arith

pub overflow_add-scopes : goal.overflow_add-scopes
overflow_add-scopes c = let h = below-eight _ _ c.requires.0.below c.requires.0.good in omega arith

pub overflow_add-a-2 : goal.overflow_add-a-2
overflow_add-a-2 c = let h = below-eight _ _ c.requires.0.below c.requires.0.good in omega arith

pub bounds-device-a : goal.bounds-device-a
bounds-device-a c = let h = below-eight _ _ c.requires.0.below c.requires.0.good in omega arith

pub loop-k-init : goal.loop-k-init
unfolding acl_at
loop-k-init c =
    let h = below-eight _ _ c.requires.0.below c.requires.0.good in
    let q = place-of _ _ c.requires.0.below c.requires.0.good in
    let f = q.scopes_few in
    let e = c.wide-n.ensures.0 in
    let d = c.args.device.now in
    let b = 16 + c.args.place * 368 + 80 in
    let g = grants c.args.counts c.args.key.now c.args.protected c.args.permission in record {
      inside = omega arith;
      good = ap (all scope_good) (scopes-first d b c.wide-n.result) ∙ ap (λ (n : ℕ). all scope_good (scopes_at d b n)) e ∙ q.scopes_good;
      same = ap (any g) (scopes-first d b c.wide-n.result) ∙ ap (λ (n : ℕ). any g (scopes_at d b n)) e;
    }

pub scope_grants-requires : goal.scope_grants-requires
scope_grants-requires c =
    (omega (arith, c.loop-k.invariant.inside), search rules, both-fst (scope_good (scope_at _ _)) _ (sym (scopes-test _ _ _ _ c.loop-k-test.true) ∙ c.loop-k.invariant.good))

pub returns-then-scope_grants : goal.returns-then-scope_grants
returns-then-scope_grants c =
    stops-yes _ (any-turn _ _ _ _ _ c.loop-k-test.true) c.loop-k.invariant.same
    (sym c.scope_grants.ensures ∙ c.if-scope_grants.true)

pub loop-k-preserved : goal.loop-k-preserved
loop-k-preserved c = record {
  inside = c.loop-k.invariant.inside;
  good = both-snd (scope_good (scope_at _ _)) _ (sym (scopes-test _ _ _ _ c.loop-k-test.true) ∙ c.loop-k.invariant.good);
  same = goes-yes (any-turn _ _ _ _ _ c.loop-k-test.true) c.loop-k.invariant.same (sym c.scope_grants.ensures ∙ c.if-scope_grants.false);
}

pub returns : goal.returns
returns c = sym (any-end _ _ _ _ _ c.loop-k-test.false) ∙ c.loop-k.invariant.same
