use mathlib.Core.Path.{ap, ◌∙◌}
use Rattle.std.specs.Prelude.{Ok, Err}
use Rattle.device_format.specs.declared.FormatError.TheVariants.{StoreBad, KeyBad}
use Rattle.c_calls.proofs.HostSteps.{formatted}
use Rattle.c_calls.proofs.host.format.Goals as goal

pub returns-in-Ok : goal.returns-in-Ok
returns-in-Ok c = formatted (Ok tt) c.in-Ok.is c.format.ensures

pub returns-in-Err-StoreBad : goal.returns-in-Err-StoreBad
returns-in-Err-StoreBad c = formatted (Err StoreBad) (c.in-Err-StoreBad.is ∙ ap Err c.in-Err-StoreBad.field-0-is) c.format.ensures

pub returns-in-Err-KeyBad : goal.returns-in-Err-KeyBad
returns-in-Err-KeyBad c = formatted (Err KeyBad) (c.in-Err-KeyBad.is ∙ ap Err c.in-Err-KeyBad.field-0-is) c.format.ensures
