use native.Mathlib.Omega.{arith}
use mathlib.Core.Path.{sym, ap, ◌∙◌}
use Rattle.fields_schema.specs.Tree.{is_some, listed}
use Rattle.fields_schema.specs.declared.Kind.TheVariants as k
use Rattle.fields_lookup.proofs.Slotted.{whole-bytes}
use Rattle.protocol.specs.Reading.{read_message}
use Rattle.request_message.proofs.Sealing.{unsealed}
use Rattle.request_message.proofs.read_message.Goals as goal

pub returns-then-not-reads : goal.returns-then-not-reads
returns-then-not-reads c = (unsealed c.args.s.now (sym c.reads.ensures ∙ c.if-not-reads.true), tt)

pub read_sealed-requires : goal.read_sealed-requires
read_sealed-requires c =
    let s = c.args.s.now in
    (omega arith, ap (λ m. is_some (listed k.Message m)) (whole-bytes s) ∙ sym c.reads.ensures ∙ c.if-not-reads.false)

pub returns : goal.returns
returns c = let r = c.read_sealed.ensures in (r.0 ∙ ap (λ m. read_message m) (whole-bytes c.args.s.now), r.1)
