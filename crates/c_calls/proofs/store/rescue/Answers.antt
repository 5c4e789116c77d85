use mathlib.Core.Path.{ap, ◌∙◌}
use Rattle.std.specs.Prelude.{Ok, Err}
use Rattle.store_rescue.specs.declared.rule.RescueError.TheVariants.{StoreBad, ReportBad}
use Rattle.c_calls.proofs.StoreSteps.{rescued}
use Rattle.c_calls.proofs.store.rescue.Goals as goal

pub returns-in-Ok : goal.returns-in-Ok
returns-in-Ok c = rescued (Ok tt) c.in-Ok.is c.rescue.ensures

pub returns-in-Err-StoreBad : goal.returns-in-Err-StoreBad
returns-in-Err-StoreBad c = rescued (Err StoreBad) (c.in-Err-StoreBad.is ∙ ap Err c.in-Err-StoreBad.field-0-is) c.rescue.ensures

pub returns-in-Err-ReportBad : goal.returns-in-Err-ReportBad
returns-in-Err-ReportBad c = rescued (Err ReportBad) (c.in-Err-ReportBad.is ∙ ap Err c.in-Err-ReportBad.field-0-is) c.rescue.ensures
