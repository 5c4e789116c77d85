use mathlib.Core.Path.{subst}
use Rattle.fields_schema.specs.Tree.{Tree, sub_at}
use Rattle.fields_schema.specs.declared.Kind.TheVariants as k
use Rattle.fields_lookup.specs.Views.{bytes_at, tree_of}
use Rattle.fields_lookup.proofs.Levels.{only_none}
use Rattle.request_message.specs.Messages.{AuthIs}
use Rattle.request_message.proofs.auth_in.Goals as goal

pub returns-then-not-has : goal.returns-then-not-has
returns-then-not-has c =
    let s = c.args.s.now in
    subst (λ (t : Tree). AuthIs s t c.no_auth.result) (only_none (sub_at 5 (tree_of k.Message (bytes_at s c.args.p))) c.requires.2 c.if-not-has.true) (c.no_auth.ensures s)

pub read_auths-requires : goal.read_auths-requires
read_auths-requires c = (c.requires.0, c.requires.1)

pub returns-then-twice : goal.returns-then-twice
returns-then-twice c = c.read_auths.ensures

pub read_auth-requires : goal.read_auth-requires
read_auth-requires c = (c.requires.2.inside, (c.requires.2.sole c.if-twice.false).reads)

pub returns : goal.returns
returns c =
    let s = c.args.s.now in
    subst (λ (t : Tree). AuthIs s t c.read_auth.result) (c.requires.2.sole c.if-twice.false).tree c.read_auth.ensures
