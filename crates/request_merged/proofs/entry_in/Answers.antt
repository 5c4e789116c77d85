use mathlib.Core.Path.{subst}
use Rattle.fields_schema.specs.Tree.{Tree, sub_at}
use Rattle.fields_schema.specs.declared.Kind.TheVariants as k
use Rattle.fields_lookup.specs.Views.{bytes_at, tree_of}
use Rattle.fields_lookup.proofs.Levels.{only_none}
use Rattle.request_parts.specs.Views.{KeyValueIs}
use Rattle.request_merged.proofs.entry_in.Goals as goal

pub returns-then-not-has : goal.returns-then-not-has
returns-then-not-has c =
    let s = c.args.s.now in
    subst (λ (t : Tree). KeyValueIs s t c.no_key_value.result) (only_none (sub_at 1 (tree_of k.Body (bytes_at s c.args.p))) c.requires.2 c.if-not-has.true) (c.no_key_value.ensures s)

pub read_key_values-requires : goal.read_key_values-requires
read_key_values-requires c = (c.requires.0, c.requires.1)

pub returns-then-twice : goal.returns-then-twice
returns-then-twice c = c.read_key_values.ensures

pub read_key_value-requires : goal.read_key_value-requires
read_key_value-requires c = (c.requires.2.inside, (c.requires.2.sole c.if-twice.false).reads)

pub returns : goal.returns
returns c =
    let s = c.args.s.now in
    subst (λ (t : Tree). KeyValueIs s t c.read_key_value.result) (c.requires.2.sole c.if-twice.false).tree c.read_key_value.ensures
