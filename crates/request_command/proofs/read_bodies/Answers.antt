use mathlib.Core.Path.{refl}
use Rattle.fields_schema.specs.Tree.{Tree, done}
use Rattle.fields_schema.specs.declared.Kind.TheVariants as k
use Rattle.fields_lookup.specs.Views.{bytes_at, tree_of}
use Rattle.fields_repeated.specs.JoinsLaws.{joins-start, joins-end, joins-reads, joins-on}
use Rattle.request_command.specs.Views.{BodyIs}
use Rattle.request_command.proofs.read_bodies.Goals as goal

pub loop-part-init : goal.loop-part-init
loop-part-init c =
    let s = c.args.s.now in
    joins-start (λ (t : Tree). BodyIs s t c.no_body-b.result) k.Body k.Command 2 s c.args.p c.requires.0 c.requires.1 refl done (c.no_body-b.ensures s)

pub next_part-requires : goal.next_part-requires
next_part-requires c = c.loop-part.invariant.inside

pub read_body-requires : goal.read_body-requires
read_body-requires c =
    let x = c.in-Some in
    joins-reads c.loop-part.invariant x.part x.rest x.ensures

pub loop-part-smaller : goal.loop-part-smaller
loop-part-smaller c = c.in-Some.ensures.1.shorter

pub loop-part-preserved : goal.loop-part-preserved
loop-part-preserved c =
    let x = c.in-Some in
    let s = c.args.s.now in
    let q = c.read_body in
    let r = c.merge_bodies-b in
    joins-on c.loop-part.invariant x.part x.rest x.ensures (λ (t : Tree). BodyIs s t r.result)
    (λ t h. r.ensures s t (tree_of k.Body (bytes_at s x.part)) h q.ensures)

pub returns : goal.returns
returns c = joins-end c.loop-part.invariant c.in_default.ensures
