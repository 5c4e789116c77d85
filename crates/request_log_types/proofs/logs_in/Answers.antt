use mathlib.Core.Path.{refl}
use Rattle.fields_schema.specs.Tree.{Tree, done}
use Rattle.fields_schema.specs.declared.Kind.TheVariants as k
use Rattle.fields_lookup.specs.Views.{bytes_at, tree_of, After}
use Rattle.fields_repeated.specs.JoinsLaws.{joins-start, joins-end, joins-reads, joins-on, after_none, after_more}
use Rattle.request_log_types.specs.Types.{LogTypes}
use Rattle.request_log_types.proofs.logs_in.Goals as goal

pub loop-part-init : goal.loop-part-init
loop-part-init c =
    let s = c.args.s.now in
    let b = c.args.before in
    joins-start (λ (t : Tree). After LogTypes b b t) k.GetLog k.Body 6 s c.args.p c.requires.0 c.requires.1 refl done (after_none LogTypes b)

pub next_part-requires : goal.next_part-requires
next_part-requires c = c.loop-part.invariant.inside

pub types_in-mask-requires : goal.types_in-mask-requires
types_in-mask-requires c =
    let x = c.in-Some in
    joins-reads c.loop-part.invariant x.part x.rest x.ensures

pub loop-part-smaller : goal.loop-part-smaller
loop-part-smaller c = c.in-Some.ensures.1.shorter

pub loop-part-preserved : goal.loop-part-preserved
loop-part-preserved c =
    let x = c.in-Some in
    let s = c.args.s.now in
    let r = c.types_in-mask in
    joins-on c.loop-part.invariant x.part x.rest x.ensures (λ (t : Tree). After LogTypes c.args.before r.result t)
    (λ u q. after_more LogTypes c.args.before c.loop-part.mask r.result (tree_of k.GetLog (bytes_at s x.part)) u r.ensures q)

pub returns : goal.returns
returns c = joins-end c.loop-part.invariant c.in_default.ensures
