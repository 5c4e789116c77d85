use native.Mathlib.Omega.{arith}
use mathlib.Core.Path.{◌∙◌, sym, refl}
use Rattle.fields_schema.specs.declared.Kind.TheVariants as kind
use Rattle.protocol.specs.Command.{scope_of}
use Rattle.request_scope.specs.Stands.{acl_in}
use Rattle.request_scope.specs.Scope.{scope_taken}
use Rattle.request_scope.specs.RestsLaws.{rest-stands}
use Rattle.request_acl.specs.Taken.{scopes_taken}
use Rattle.request_acl.proofs.Rests.{adding-start, adding-none, adding-refused, adding-on, adding-end}
use Rattle.request_acl.proofs.Acls.{put_them, put_it, them-nil, them-cons}
use Rattle.request_acl.proofs.add_scopes.Goals as goal

pub loop-n-init : goal.loop-n-init
loop-n-init c =
    let s = c.args.s.now in
    adding-start kind.Scope 4 scope_of scope_taken 4 (put_them c.args.place) (put_it c.args.place) s (acl_in s c.args.p).scopes c.args.device.now kind.Acl c.args.p c.requires.1 refl refl

pub next_part-requires : goal.next_part-requires
next_part-requires c = c.loop-n.invariant.rest.inside

pub returns-in_default : goal.returns-in_default
unfolding scopes_taken
returns-in_default c =
    let o = c.loop-n in
    let s = c.args.s.now in
    adding-none kind.Scope 4 scope_of scope_taken 4 (put_them c.args.place) (put_it c.args.place) s (acl_in s c.args.p).scopes c.args.device.now (them-nil c.args.place) (them-cons c.args.place) o.left o.device o.n o.invariant c.in_default.ensures

pub add_scope_from-requires : goal.add_scope_from-requires
add_scope_from-requires c =
    let x = c.in-Some in
    let o = c.loop-n in
    (c.requires.0, c.loop-n-test.true, rest-stands kind.Scope 4 scope_of c.args.s.now o.left o.invariant.rest x.part x.rest x.ensures)

pub returns-then-not-add_scope_from : goal.returns-then-not-add_scope_from
unfolding scopes_taken
returns-then-not-add_scope_from c =
    let x = c.in-Some in
    let o = c.loop-n in
    let s = c.args.s.now in
    adding-refused kind.Scope 4 scope_of scope_taken 4 (put_them c.args.place) (put_it c.args.place) s (acl_in s c.args.p).scopes c.args.device.now (them-nil c.args.place) (them-cons c.args.place) o.left o.device o.n o.invariant x.part x.rest x.ensures
    (sym c.add_scope_from.ensures.answer ∙ c.if-not-add_scope_from.true) _ _

pub loop-n-preserved : goal.loop-n-preserved
loop-n-preserved c =
    let x = c.in-Some in
    let o = c.loop-n in
    let s = c.args.s.now in
    let y = c.if-not-add_scope_from.false in
    adding-on kind.Scope 4 scope_of scope_taken 4 (put_them c.args.place) (put_it c.args.place) s (acl_in s c.args.p).scopes c.args.device.now (them-nil c.args.place) (them-cons c.args.place) o.left o.device o.n o.invariant x.part x.rest x.ensures
    (sym c.add_scope_from.ensures.answer ∙ y) _ (c.add_scope_from.ensures.made y) c.loop-n-test.true

pub next_part-requires-2 : goal.next_part-requires-2
next_part-requires-2 c = c.loop-n.invariant.rest.inside

pub returns : goal.returns
unfolding scopes_taken
returns c =
    let x = c.next_part-2 in
    let o = c.loop-n in
    let s = c.args.s.now in
    adding-end kind.Scope 4 scope_of scope_taken 4 (put_them c.args.place) (put_it c.args.place) s (acl_in s c.args.p).scopes c.args.device.now (them-nil c.args.place) (them-cons c.args.place) o.left o.device o.n o.invariant (omega arith) c.loop-n-test.false x.result x.ensures c.is_none.result c.is_none.ensures
