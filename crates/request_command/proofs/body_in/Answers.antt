use mathlib.Core.Path.{subst}
use Rattle.fields_schema.specs.Tree.{Tree, sub_at}
use Rattle.fields_schema.specs.declared.Kind.TheVariants as k
use Rattle.fields_lookup.specs.Views.{bytes_at, tree_of}
use Rattle.fields_lookup.proofs.Levels.{only_none}
use Rattle.request_command.specs.Views.{BodyIs}
use Rattle.request_command.proofs.body_in.Goals as goal

pub returns-then-not-has : goal.returns-then-not-has
returns-then-not-has c =
    let s = c.args.s.now in
    subst (λ (t : Tree). BodyIs s t c.no_body.result) (only_none (sub_at 2 (tree_of k.Command (bytes_at s c.args.p))) c.requires.2 c.if-not-has.true) (c.no_body.ensures s)

pub read_bodies-requires : goal.read_bodies-requires
read_bodies-requires c = (c.requires.0, c.requires.1)

pub returns-then-twice : goal.returns-then-twice
returns-then-twice c = c.read_bodies.ensures

pub read_body-requires : goal.read_body-requires
read_body-requires c = (c.requires.2.inside, (c.requires.2.sole c.if-twice.false).reads)

pub returns : goal.returns
returns c =
    let s = c.args.s.now in
    subst (λ (t : Tree). BodyIs s t c.read_body.result) (c.requires.2.sole c.if-twice.false).tree c.read_body.ensures
