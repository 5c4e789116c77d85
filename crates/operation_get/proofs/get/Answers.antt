use mathlib.Core.Path.{subst}
use Rattle.store_layout.specs.Entries.{Sought}
use Rattle.operation_get.specs.ShownLaws.{found_at, missing_at}
use Rattle.operation_get.proofs.get.Goals as goal

pub returns-in-Ok : goal.returns-in-Ok
returns-in-Ok c =
    found_at c.args.store.now c.requires c.args.key.now c.in-Ok.i c.entry_at.result c.entry_at.ensures (subst (λ o. Sought c.args.store.now c.args.key.now o) c.in-Ok.is c.find.ensures)

pub returns-in-Err : goal.returns-in-Err
returns-in-Err c = missing_at c.args.store.now c.requires c.args.key.now c.in-Err.field-0 (subst (λ o. Sought c.args.store.now c.args.key.now o) c.in-Err.is c.find.ensures)
