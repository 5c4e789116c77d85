use native.Mathlib.Omega.{arith}
use mathlib.Core.Path.{refl}
use Rattle.fields_schema.specs.declared.Kind.TheVariants as k
use Rattle.fields_lookup.specs.Views.{bytes_at, tree_of}
use Rattle.fields_lookup.proofs.Levels.{level-at, part_at}
use Rattle.fields_schema.specs.declared.Form.TheVariants.{Nested}
use Rattle.fields_lookup.proofs.LevelLaws.{once-subs}
use Rattle.request_command.proofs.Levels.{count_none, count-first, count-more}
use Rattle.request_command.proofs.securities.Goals as goal

pub part_of-a-requires : goal.part_of-a-requires
part_of-a-requires c = let o = c.open_at-t in part_at k.Body c.args.s.now c.args.p o.result o.ensures c.requires 7 (omega arith) refl

pub returns-then-not-has : goal.returns-then-not-has
returns-then-not-has c =
    let s = c.args.s.now in
    let p = c.args.p in
    let o = c.open_at-t in
    let l = level-at k.Body s p o.result o.ensures c.requires in
    let x = c.part_of-a in
    count_none (tree_of k.Body (bytes_at s p)) x.result (x.ensures.here k.Body k.Security l refl) (once-subs k.Body 7 (Nested k.Security) refl (bytes_at s p) c.requires.1) c.args.before c.if-not-has.true

pub returns-then-before-eq0 : goal.returns-then-before-eq0
returns-then-before-eq0 c =
    let s = c.args.s.now in
    let p = c.args.p in
    let o = c.open_at-t in
    let l = level-at k.Body s p o.result o.ensures c.requires in
    let x = c.part_of-a in
    count-first (tree_of k.Body (bytes_at s p)) x.result (x.ensures.here k.Body k.Security l refl) (once-subs k.Body 7 (Nested k.Security) refl (bytes_at s p) c.requires.1) c.args.before c.if-not-has.false c.if-before-eq0.true

pub returns : goal.returns
returns c =
    let s = c.args.s.now in
    let p = c.args.p in
    let o = c.open_at-t in
    let l = level-at k.Body s p o.result o.ensures c.requires in
    let x = c.part_of-a in
    count-more (tree_of k.Body (bytes_at s p)) x.result (x.ensures.here k.Body k.Security l refl) (once-subs k.Body 7 (Nested k.Security) refl (bytes_at s p) c.requires.1) c.args.before c.if-not-has.false c.if-before-eq0.false
