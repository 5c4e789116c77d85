use Rattle.std.proofs.Common.{◌+◌, ◌-◌, ◌≡◌}
use Rattle.log_readings.specs.Lent.{places_from, all_named}
use Rattle.log_readings.proofs.named.Given as goal

abbrev pub invariant-loop-i : goal.invariant-loop-i
invariant-loop-i l = all_named (places_from l.s l.i (l.first + l.n - l.i)) ≡ all_named (places_from l.s l.first l.n)
