use native.Mathlib.Omega.{arith}
use mathlib.Core.Path.{◌≡◌, ◌∙◌, sym, subst}
use mathlib.Core.Bool.{true}
use Rattle.access_record.specs.Table.{named}
use Rattle.request_scope.specs.Stands.{scope_in}
use Rattle.request_scope.specs.Scope.{PermissionsAre}
use Rattle.request_scope.proofs.Walk.{walk_start, walk-many, walk_end, walk-bad, walk-on, named_small}
use Rattle.request_scope.proofs.permissions_of.Goals as goal
use Rattle.request_scope.proofs.permissions_of.Goals.{Else-not-is_permission}

pub loop-n-init : goal.loop-n-init
loop-n-init c = walk_start c.args.s.now c.args.p c.requires

pub next_num-requires : goal.next_num-requires
next_num-requires c = c.loop-n.invariant.inside

pub returns-in_default : goal.returns-in_default
returns-in_default c =
    let a = c.args in
    let o = c.loop-n in
    subst (PermissionsAre (scope_in a.s.now a.p)) (sym c.then_some.ensures) (walk_end a.s.now a.p o.left o.mask o.n c.requires o.invariant c.in_default.ensures c.loop-n-test.true)

pub returns-then-not-is_permission : goal.returns-then-not-is_permission
returns-then-not-is_permission c =
    let x = c.in-Some in
    let o = c.loop-n in
    walk-bad c.args.s.now c.args.p o.left o.mask o.n c.requires o.invariant x.v x.rest x.ensures (sym c.is_permission.ensures ∙ c.if-not-is_permission.true)

small : (c : Else-not-is_permission) → named c.in-Some.v ≡ true
small c = sym c.is_permission.ensures ∙ c.if-not-is_permission.false

pub overflow_cast-v : goal.overflow_cast-v
overflow_cast-v c = let h = named_small _ (small (goal.at.overflow_cast-v c).Else-not-is_permission) in record { fits = omega arith }

pub with_bit-mask-requires : goal.with_bit-mask-requires
with_bit-mask-requires c = named_small _ (small (goal.at.with_bit-mask-requires c).Else-not-is_permission)

pub loop-n-preserved : goal.loop-n-preserved
loop-n-preserved c =
    let x = c.in-Some in
    let o = c.loop-n in
    walk-on c.args.s.now c.args.p o.left o.mask o.n c.requires o.invariant x.v x.rest x.ensures
    (small (goal.at.loop-n-preserved c).Else-not-is_permission) c.with_bit-mask.result c.with_bit-mask.ensures

pub returns : goal.returns
returns c =
    let o = c.loop-n in
    walk-many c.args.s.now c.args.p o.left o.mask o.n c.requires o.invariant (omega (arith, c.loop-n-test.false))
