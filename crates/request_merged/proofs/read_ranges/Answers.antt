use mathlib.Core.Path.{refl}
use Rattle.fields_schema.specs.Tree.{Tree, done}
use Rattle.fields_schema.specs.declared.Kind.TheVariants as k
use Rattle.fields_lookup.specs.Views.{bytes_at, tree_of}
use Rattle.fields_repeated.specs.JoinsLaws.{joins-start, joins-end, joins-reads, joins-on}
use Rattle.request_parts.specs.Views.{RangeIs}
use Rattle.request_merged.proofs.read_ranges.Goals as goal

pub loop-part-init : goal.loop-part-init
loop-part-init c =
    let s = c.args.s.now in
    joins-start (λ (t : Tree). RangeIs s t c.no_range-g.result) k.Range k.Body 2 s c.args.p c.requires.0 c.requires.1 refl done (c.no_range-g.ensures s)

pub next_part-requires : goal.next_part-requires
next_part-requires c = c.loop-part.invariant.inside

pub read_range-requires : goal.read_range-requires
read_range-requires c =
    let x = c.in-Some in
    joins-reads c.loop-part.invariant x.part x.rest x.ensures

pub loop-part-smaller : goal.loop-part-smaller
loop-part-smaller c = c.in-Some.ensures.1.shorter

pub loop-part-preserved : goal.loop-part-preserved
loop-part-preserved c =
    let x = c.in-Some in
    let s = c.args.s.now in
    let q = c.read_range in
    let r = c.merge_ranges-g in
    joins-on c.loop-part.invariant x.part x.rest x.ensures (λ (t : Tree). RangeIs s t r.result)
    (λ t h. r.ensures s t (tree_of k.Range (bytes_at s x.part)) h q.ensures)

pub returns : goal.returns
returns c = joins-end c.loop-part.invariant c.in_default.ensures
