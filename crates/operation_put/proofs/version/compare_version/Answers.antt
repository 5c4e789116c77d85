use mathlib.Core.Bool.{true, false}
use Prim.Native.Nat.{ℕ, ◌+◌, ◌-◌}
use lib.ListN.{take, drop}
use Rattle.base_definitions.specs.Lists.{same_bytes}
use Rattle.store_layout.specs.Entries.{part_of}
use mathlib.Core.Path.{◌≡◌, sym, ap, ◌∙◌, subst}
use native.Mathlib.Omega.{arith}
use Rattle.operation_get.specs.Shown.{Inside, PartsInside}
use Rattle.operation_put.specs.VersionLaws.{version-found, version-none}
use Rattle.operation_put.proofs.version.compare_version.Goals as goal
use Rattle.operation_put.proofs.version.compare_version.Goals.{After-same, In-Some}

inside : (c : In-Some) → Inside c.args.store.now c.in-Some.p
inside c = subst (λ r. PartsInside c.args.store.now r) c.in-Some.is c.get.ensures.inside

part : (c : After-same) → c.same.result ≡ same_bytes c.args.old.now (part_of c.args.store.now c.in-Some.p.version)
part c =
    let v = c.in-Some.p.version in
    let e : v.start + v.len - v.start ≡ v.len = omega arith in
    c.same.ensures ∙ ap (λ (n : ℕ). same_bytes c.args.old.now (take n (drop v.start c.args.store.now))) e

pub overflow_add-e : goal.overflow_add-e
overflow_add-e c = let i = inside (goal.at.overflow_add-e c).In-Some in let v = i.version in let g = c.well_formed in omega arith

pub slice_bounds-same-end : goal.slice_bounds-same-end
slice_bounds-same-end c = let i = inside (goal.at.slice_bounds-same-end c).In-Some in let v = i.version in omega arith

pub returns-then-same : goal.returns-then-same
returns-then-same c =
    version-found c.args.old.now c.get.ensures c.in-Some.is true (sym c.if-same.true ∙ part (goal.at.returns-then-same c).After-same)

pub returns-else-same : goal.returns-else-same
returns-else-same c =
    version-found c.args.old.now c.get.ensures c.in-Some.is false (sym c.if-same.false ∙ part (goal.at.returns-else-same c).After-same)

pub returns-in-None : goal.returns-in-None
returns-in-None c = version-none c.args.old.now c.get.ensures c.in-None.is
