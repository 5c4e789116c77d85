-- A log of the parts that are asked for.
use Rattle.std.specs.Prelude.{List, ℕ}
use Rattle.protocol.specs.Judge.{Log, log_with}
use Rattle.reply_log_body.specs.declared.LogParts.{LogParts}

abbrev pub log_by : List ℕ → List ℕ → LogParts → Log
log_by store readings parts = log_with store readings parts.utilizations parts.temperatures parts.capacities parts.limits
