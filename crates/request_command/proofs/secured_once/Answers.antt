use mathlib.Core.Path.{sym, ◌∙◌}
use Rattle.fields_schema.specs.Tree.{sub_at, tree_in}
use Rattle.fields_schema.specs.declared.Kind.TheVariants as k
use Rattle.fields_lookup.specs.Views.{bytes_at, tree_of}
use Rattle.request_command.proofs.Levels.{none-once, once-test, once-one}
use Rattle.request_command.proofs.secured_once.Goals as goal

pub returns-then-not-secured : goal.returns-then-not-secured
returns-then-not-secured c =
    let t = tree_of k.Command (bytes_at c.args.s.now c.args.p) in
    once-one t (none-once (tree_in (sub_at 2 t)) (sym c.requires.2.here ∙ c.if-not-secured.true))

pub all_securities-requires : goal.all_securities-requires
all_securities-requires c = (c.requires.0, c.requires.1)

pub returns-then-twice : goal.returns-then-twice
returns-then-twice c =
    let a = c.args in
    once-test (tree_of k.Command (bytes_at a.s.now a.p)) c.all_securities.result c.all_securities.ensures

pub returns : goal.returns
returns c =
    once-one (tree_of k.Command (bytes_at c.args.s.now c.args.p)) (c.requires.2.sole c.if-twice.false)
