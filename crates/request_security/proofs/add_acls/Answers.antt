use native.Mathlib.Omega.{arith}
use mathlib.Core.Path.{◌∙◌, sym, refl}
use Rattle.fields_schema.specs.declared.Kind.TheVariants as kind
use Rattle.protocol.specs.Command.{acl_of}
use Rattle.request_scope.specs.Stands.{acls_in}
use Rattle.request_scope.specs.RestsLaws.{rest-stands}
use Rattle.request_acl.specs.Taken.{acl_taken, put_one}
use Rattle.request_security.specs.Security.{acls_taken}
use Rattle.request_acl.proofs.Rests.{adding-start, adding-none, adding-refused, adding-on, adding-end}
use Rattle.request_security.proofs.Tables.{put_all, all_nil, all_cons}
use Rattle.request_security.proofs.add_acls.Goals as goal

pub loop-n-init : goal.loop-n-init
loop-n-init c =
    let s = c.args.s.now in
    adding-start kind.Acl 2 acl_of acl_taken 8 put_all put_one s (acls_in s c.args.p) c.args.device.now kind.Security c.args.p c.requires refl refl

pub next_part-requires : goal.next_part-requires
next_part-requires c = c.loop-n.invariant.rest.inside

pub returns-in_default : goal.returns-in_default
unfolding acls_taken
returns-in_default c =
    let o = c.loop-n in
    let s = c.args.s.now in
    adding-none kind.Acl 2 acl_of acl_taken 8 put_all put_one s (acls_in s c.args.p) c.args.device.now all_nil all_cons o.left o.device o.n o.invariant c.in_default.ensures

pub add_acl_from-requires : goal.add_acl_from-requires
add_acl_from-requires c =
    let x = c.in-Some in
    let o = c.loop-n in
    (c.loop-n-test.true, rest-stands kind.Acl 2 acl_of c.args.s.now o.left o.invariant.rest x.part x.rest x.ensures)

pub returns-then-not-add_acl_from : goal.returns-then-not-add_acl_from
unfolding acls_taken
returns-then-not-add_acl_from c =
    let x = c.in-Some in
    let o = c.loop-n in
    let s = c.args.s.now in
    adding-refused kind.Acl 2 acl_of acl_taken 8 put_all put_one s (acls_in s c.args.p) c.args.device.now all_nil all_cons o.left o.device o.n o.invariant x.part x.rest x.ensures
    (sym c.add_acl_from.ensures.answer ∙ c.if-not-add_acl_from.true) _ _

pub loop-n-preserved : goal.loop-n-preserved
loop-n-preserved c =
    let x = c.in-Some in
    let o = c.loop-n in
    let s = c.args.s.now in
    let y = c.if-not-add_acl_from.false in
    adding-on kind.Acl 2 acl_of acl_taken 8 put_all put_one s (acls_in s c.args.p) c.args.device.now all_nil all_cons o.left o.device o.n o.invariant x.part x.rest x.ensures
    (sym c.add_acl_from.ensures.answer ∙ y) _ (c.add_acl_from.ensures.made y) c.loop-n-test.true

pub next_part-requires-2 : goal.next_part-requires-2
next_part-requires-2 c = c.loop-n.invariant.rest.inside

pub returns : goal.returns
unfolding acls_taken
returns c =
    let x = c.next_part-2 in
    let o = c.loop-n in
    let s = c.args.s.now in
    adding-end kind.Acl 2 acl_of acl_taken 8 put_all put_one s (acls_in s c.args.p) c.args.device.now all_nil all_cons o.left o.device o.n o.invariant (omega arith) c.loop-n-test.false x.result x.ensures c.is_none.result c.is_none.ensures
