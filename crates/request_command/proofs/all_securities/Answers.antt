use mathlib.Core.Path.{refl}
use Rattle.fields_schema.specs.Tree.{Tree, done}
use Rattle.fields_schema.specs.declared.Kind.TheVariants as k
use Rattle.fields_repeated.specs.JoinsLaws.{joins-start, joins-end, joins-reads, joins-on}
use Rattle.request_command.specs.Views.{CountIs}
use Rattle.request_command.proofs.all_securities.Goals as goal

pub loop-part-init : goal.loop-part-init
loop-part-init c =
    let s = c.args.s.now in
    joins-start (λ (t : Tree). CountIs t 0) k.Body k.Command 2 s c.args.p c.requires.0 c.requires.1 refl done refl

pub next_part-requires : goal.next_part-requires
next_part-requires c = c.loop-part.invariant.inside

pub securities-n-requires : goal.securities-n-requires
securities-n-requires c =
    let x = c.in-Some in
    joins-reads c.loop-part.invariant x.part x.rest x.ensures

pub loop-part-smaller : goal.loop-part-smaller
loop-part-smaller c = c.in-Some.ensures.1.shorter

pub loop-part-preserved : goal.loop-part-preserved
loop-part-preserved c =
    let x = c.in-Some in
    let r = c.securities-n in
    joins-on c.loop-part.invariant x.part x.rest x.ensures (λ (t : Tree). CountIs t r.result) r.ensures

pub returns : goal.returns
returns c = joins-end c.loop-part.invariant c.in_default.ensures
