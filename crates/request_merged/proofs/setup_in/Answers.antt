use mathlib.Core.Path.{subst}
use Rattle.fields_schema.specs.Tree.{Tree, sub_at}
use Rattle.fields_schema.specs.declared.Kind.TheVariants as k
use Rattle.fields_lookup.specs.Views.{bytes_at, tree_of}
use Rattle.fields_lookup.proofs.Levels.{only_none}
use Rattle.request_merged.specs.Setups.{SetupIs}
use Rattle.request_merged.proofs.setup_in.Goals as goal

pub returns-then-not-has : goal.returns-then-not-has
returns-then-not-has c =
    let s = c.args.s.now in
    subst (λ (t : Tree). SetupIs t c.no_setup.result) (only_none (sub_at 3 (tree_of k.Body (bytes_at s c.args.p))) c.requires.2 c.if-not-has.true) c.no_setup.ensures

pub read_setups-requires : goal.read_setups-requires
read_setups-requires c = (c.requires.0, c.requires.1)

pub returns-then-twice : goal.returns-then-twice
returns-then-twice c = c.read_setups.ensures

pub read_setup-requires : goal.read_setup-requires
read_setup-requires c = (c.requires.2.inside, (c.requires.2.sole c.if-twice.false).reads)

pub returns : goal.returns
returns c =
    let s = c.args.s.now in
    subst (λ (t : Tree). SetupIs t c.read_setup.result) (c.requires.2.sole c.if-twice.false).tree c.read_setup.ensures
