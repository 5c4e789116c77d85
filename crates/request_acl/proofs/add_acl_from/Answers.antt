use Rattle.std.proofs.Common.{arith, rules}
use mathlib.Core.Path.{refl, subst}
use Rattle.base_integers.specs.SignedLaws.{word_kept}
use Rattle.fields_schema.specs.declared.Kind.TheVariants as kind
use Rattle.fields_lookup.specs.Views.{Level, bytes_at}
use Rattle.fields_lookup.proofs.Slotted.{level-sized, part-ready}
use Rattle.request_scope.specs.ScopeLaws.{level-at}
use Rattle.fields_lookup.proofs.SliceLaws.{slice_at}
use Rattle.request_acl.proofs.Scopes.{slice-short}
use Rattle.request_acl.proofs.Acls.{AclFacts, acl-facts, acl-nameless, acl-keyless, acl-long, acl-made}
use Rattle.request_acl.proofs.add_acl_from.Goals as goal
use Rattle.request_acl.proofs.add_acl_from.Goals.{After-open_at-t, After-signed_of}

level : (c : After-open_at-t) → Level kind.Acl (bytes_at c.args.s.now c.args.p) c.open_at-t.result
level c = level-at c.open_at-t.result c.requires.1 c.open_at-t.ensures

facts : (c : After-signed_of) → AclFacts c.args.s.now c.args.p c.signed_of.result c.part_of-key.result
facts c =
    let t = c.open_at-t in
    acl-facts c.args.s.now c.args.p t.result c.requires.1 t.ensures c.signed_of.result c.signed_of.ensures c.part_of-key.result c.part_of-key.ensures

pub open_at-t-requires : goal.open_at-t-requires
open_at-t-requires c = c.requires.1.inside

pub signed_of-requires : goal.signed_of-requires
signed_of-requires c = (omega arith, level-sized _ _ _ (level (goal.at.signed_of-requires c).After-open_at-t))

pub part_of-key-requires : goal.part_of-key-requires
part_of-key-requires c =
    let o = (goal.at.part_of-key-requires c).After-open_at-t in
    part-ready kind.Acl c.args.s.now c.args.p o.open_at-t.result (level o) c.requires.1.inside 2 (omega arith) refl

pub returns-in_default : goal.returns-in_default
returns-in_default c = acl-nameless (facts (goal.at.returns-in_default c).After-signed_of) _ _ c.in_default.is

pub returns-then-key-lt1 : goal.returns-then-key-lt1
returns-then-key-lt1 c = acl-keyless (facts (goal.at.returns-then-key-lt1 c).After-signed_of) _ _ c.if-key-lt1.true

pub returns-then-key-gt64 : goal.returns-then-key-gt64
returns-then-key-gt64 c = acl-long (facts (goal.at.returns-then-key-gt64 c).After-signed_of) _ _ c.if-key-gt64.true

pub overflow_add-end : goal.overflow_add-end
overflow_add-end c = let i = (facts (goal.at.overflow_add-end c).After-signed_of).place in record { fits = omega arith }

pub add_acl-requires : goal.add_acl-requires
add_acl-requires c =
    (c.requires.0, slice-short c.args.s.now c.part_of-key.result (facts (goal.at.add_acl-requires c).After-signed_of).place c.if-key-gt64.false)

pub add_scopes-requires : goal.add_scopes-requires
add_scopes-requires c = c.requires

pub returns : goal.returns
returns c =
    acl-made (subst (λ i. AclFacts c.args.s.now c.args.p i c.part_of-key.result) c.in-Some.is (facts (goal.at.returns c).After-signed_of)) c.if-key-lt1.false c.if-key-gt64.false
    c.args.device.now _ _ c.args.place _ _ c.add_scopes.result (word_kept c.in-Some.identity (search rules)) (slice_at c.args.s.now c.part_of-key.result) c.add_acl.ensures c.add_scopes.ensures
