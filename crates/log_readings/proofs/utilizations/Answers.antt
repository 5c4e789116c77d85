use native.Mathlib.Omega.{arith}
use Rattle.log_readings.specs.LentLaws.{good-long, good-utilizations}
use Rattle.log_readings.proofs.utilizations.Goals as goal

pub bounds-s-1 : goal.bounds-s-1
bounds-s-1 c = omega (arith, good-long _ c.requires)

pub returns : goal.returns
returns c = (c.wide.ensures.0, omega (arith, c.wide.ensures.0, good-utilizations _ c.requires))
