use mathlib.Core.Path.{ap, ◌∙◌}
use Rattle.std.specs.Prelude.{Ok, Err, Some, None}
use Rattle.c_calls.proofs.StoreSteps.{found_as}
use Rattle.c_calls.proofs.store.find.Goals as goal

pub returns-in-Ok-Some : goal.returns-in-Ok-Some
returns-in-Ok-Some c =
    found_as c.args.part.now (Ok (Some c.in-Ok-Some.found)) (c.in-Ok-Some.is ∙ ap Ok c.in-Ok-Some.field-0-is) c.local_find.ensures

pub returns-in-Ok-None : goal.returns-in-Ok-None
returns-in-Ok-None c =
    found_as c.args.part.now (Ok None) (c.in-Ok-None.is ∙ ap Ok c.in-Ok-None.field-0-is) c.local_find.ensures

pub returns-in-Err : goal.returns-in-Err
returns-in-Err c = found_as c.args.part.now (Err _) c.in-Err.is c.local_find.ensures
