use native.Mathlib.Omega.{arith}
use Rattle.fields_schema.specs.declared.Kind.TheVariants as k
use mathlib.Core.Path.{sym, ap, ◌∙◌}
use Rattle.fields_schema.specs.Tree.{is_some, listed}
use Rattle.fields_lookup.proofs.Slotted.{whole-bytes}
use Rattle.request_command.proofs.Levels.{unread}
use Rattle.request_command.proofs.read_request.Goals as goal

pub read_command-requires : goal.read_command-requires
read_command-requires c =
    let s = c.args.s.now in
    (omega arith, ap (λ m. is_some (listed k.Command m)) (whole-bytes s) ∙ sym c.reads.ensures ∙ c.if-reads.true, whole-bytes s)

pub returns-then-reads : goal.returns-then-reads
returns-then-reads c = c.read_command.ensures

pub returns : goal.returns
returns c =
    let s = c.args.s.now in
    let r = c.no_request.ensures in
    (unread s c.no_request.result r.0 (sym c.reads.ensures ∙ c.if-reads.false), r.1 s)
