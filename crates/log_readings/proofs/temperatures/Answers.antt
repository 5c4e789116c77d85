use native.Mathlib.Omega.{arith}
use Rattle.log_readings.specs.LentLaws.{good-long, good-temperatures}
use Rattle.log_readings.proofs.temperatures.Goals as goal

pub bounds-s-0 : goal.bounds-s-0
bounds-s-0 c = omega (arith, good-long _ c.requires)

pub returns : goal.returns
returns c = (c.wide.ensures.0, omega (arith, c.wide.ensures.0, good-temperatures _ c.requires))
