use mathlib.Core.Path.{subst}
use Rattle.fields_schema.specs.Tree.{Tree, sub_at}
use Rattle.fields_schema.specs.declared.Kind.TheVariants as k
use Rattle.fields_lookup.specs.Views.{bytes_at, tree_of}
use Rattle.fields_lookup.proofs.Levels.{only_none}
use Rattle.request_parts.specs.Views.{RangeIs}
use Rattle.request_merged.proofs.range_in.Goals as goal

pub returns-then-not-has : goal.returns-then-not-has
returns-then-not-has c =
    let s = c.args.s.now in
    subst (λ (t : Tree). RangeIs s t c.no_range.result) (only_none (sub_at 2 (tree_of k.Body (bytes_at s c.args.p))) c.requires.2 c.if-not-has.true) (c.no_range.ensures s)

pub read_ranges-requires : goal.read_ranges-requires
read_ranges-requires c = (c.requires.0, c.requires.1)

pub returns-then-twice : goal.returns-then-twice
returns-then-twice c = c.read_ranges.ensures

pub read_range-requires : goal.read_range-requires
read_range-requires c = (c.requires.2.inside, (c.requires.2.sole c.if-twice.false).reads)

pub returns : goal.returns
returns c =
    let s = c.args.s.now in
    subst (λ (t : Tree). RangeIs s t c.read_range.result) (c.requires.2.sole c.if-twice.false).tree c.read_range.ensures
