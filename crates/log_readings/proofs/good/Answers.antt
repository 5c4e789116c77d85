use Rattle.std.proofs.Common.{rules}
use Rattle.log_readings.specs.Lent.{readings_good}
use Rattle.log_readings.proofs.good.Goals as goal

pub returns-then-s-ne134 : goal.returns-then-s-ne134
unfolding readings_good
returns-then-s-ne134 c = search rules

pub returns-then-named : goal.returns-then-named
unfolding readings_good
returns-then-named c = search rules

pub returns-else-named : goal.returns-else-named
unfolding readings_good
returns-else-named c = search rules
