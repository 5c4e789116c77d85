use Rattle.std.proofs.Common.{rules}
use Rattle.log_readings.specs.Lent.{bits_at}
use Rattle.log_sample.proofs.bits_at.Goals as goal

pub returns : goal.returns
unfolding bits_at
returns c = search rules
