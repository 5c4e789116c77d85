use Prim.Native.Nat.{◌+◌, ◌*◌, ◌-◌}
use mathlib.Core.Path.{◌≡◌}
use Rattle.access_record.specs.Table.{acls_good}
use Rattle.access_record.specs.Record.{acls_at}
use Rattle.access_check.proofs.acls_good.Given as goal

abbrev pub invariant-loop-k : goal.invariant-loop-k
invariant-loop-k l = acls_good (acls_at l.device (16 + l.k * 368) (l.n - l.k)) ≡ acls_good (acls_at l.device 16 l.n)
