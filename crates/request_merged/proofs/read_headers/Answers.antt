use mathlib.Core.Path.{refl}
use Rattle.fields_schema.specs.Tree.{Tree, done}
use Rattle.fields_schema.specs.declared.Kind.TheVariants as k
use Rattle.fields_lookup.specs.Views.{bytes_at, tree_of}
use Rattle.fields_repeated.specs.JoinsLaws.{joins-start, joins-end, joins-reads, joins-on}
use Rattle.request_parts.specs.Views.{HeaderIs}
use Rattle.request_merged.proofs.read_headers.Goals as goal

pub loop-part-init : goal.loop-part-init
loop-part-init c =
    let s = c.args.s.now in
    joins-start (λ (t : Tree). HeaderIs t c.no_header-h.result) k.Header k.Command 1 s c.args.p c.requires.0 c.requires.1 refl done c.no_header-h.ensures

pub next_part-requires : goal.next_part-requires
next_part-requires c = c.loop-part.invariant.inside

pub read_header-requires : goal.read_header-requires
read_header-requires c =
    let x = c.in-Some in
    joins-reads c.loop-part.invariant x.part x.rest x.ensures

pub loop-part-smaller : goal.loop-part-smaller
loop-part-smaller c = c.in-Some.ensures.1.shorter

pub loop-part-preserved : goal.loop-part-preserved
loop-part-preserved c =
    let x = c.in-Some in
    let s = c.args.s.now in
    let q = c.read_header in
    let r = c.merge_headers-h in
    joins-on c.loop-part.invariant x.part x.rest x.ensures (λ (t : Tree). HeaderIs t r.result)
    (λ t h. r.ensures t (tree_of k.Header (bytes_at s x.part)) h q.ensures)

pub returns : goal.returns
returns c = joins-end c.loop-part.invariant c.in_default.ensures
