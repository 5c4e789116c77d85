use mathlib.Core.Path.{subst}
use Rattle.fields_schema.specs.Tree.{Tree, sub_at}
use Rattle.fields_schema.specs.declared.Kind.TheVariants as k
use Rattle.fields_lookup.specs.Views.{bytes_at, tree_of}
use Rattle.fields_lookup.proofs.Levels.{only_none}
use Rattle.request_parts.specs.Views.{HeaderIs}
use Rattle.request_merged.proofs.header_in.Goals as goal

pub returns-then-not-has : goal.returns-then-not-has
returns-then-not-has c =
    let s = c.args.s.now in
    subst (λ (t : Tree). HeaderIs t c.no_header.result) (only_none (sub_at 1 (tree_of k.Command (bytes_at s c.args.p))) c.requires.2 c.if-not-has.true) c.no_header.ensures

pub read_headers-requires : goal.read_headers-requires
read_headers-requires c = (c.requires.0, c.requires.1)

pub returns-then-twice : goal.returns-then-twice
returns-then-twice c = c.read_headers.ensures

pub read_header-requires : goal.read_header-requires
read_header-requires c = (c.requires.2.inside, (c.requires.2.sole c.if-twice.false).reads)

pub returns : goal.returns
returns c =
    let s = c.args.s.now in
    subst (λ (t : Tree). HeaderIs t c.read_header.result) (c.requires.2.sole c.if-twice.false).tree c.read_header.ensures
