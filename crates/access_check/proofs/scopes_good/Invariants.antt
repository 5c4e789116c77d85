use Prim.Native.Nat.{◌+◌, ◌*◌, ◌-◌}
use mathlib.Core.Path.{◌≡◌}
use Rattle.base_definitions.specs.Lists.{all}
use Rattle.access_record.specs.Table.{scope_good}
use Rattle.access_record.specs.Record.{scopes_at}
use Rattle.access_check.proofs.scopes_good.Given as goal

abbrev pub invariant-loop-k : goal.invariant-loop-k
invariant-loop-k l = all scope_good (scopes_at l.device (l.a + l.k * 72) (l.n - l.k)) ≡ all scope_good (scopes_at l.device l.a l.n)
