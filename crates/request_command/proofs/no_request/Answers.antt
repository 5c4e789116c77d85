use mathlib.Core.Path.{refl}
use Rattle.request_command.proofs.Levels.{no-lies}
use Rattle.request_command.proofs.no_request.Goals as goal

pub returns : goal.returns
returns c = (refl, λ s. no-lies s c.no_body.result (c.no_body.ensures s))
