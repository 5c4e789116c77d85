use Prim.Native.Nat.{◌+◌, ◌*◌, ◌-◌}
use mathlib.Core.Path.{◌≡◌}
use Rattle.base_integers.specs.Signed.{word_of}
use Rattle.access_record.specs.Table.{find_from}
use Rattle.access_record.specs.Record.{acls_at}
use Rattle.access_identity.proofs.find_from.Given as goal

abbrev pub invariant-loop-k : goal.invariant-loop-k
invariant-loop-k l = find_from (l.i + l.k) (word_of l.identity) (acls_at l.device (l.a + l.k * 368) (l.n - l.k)) ≡ find_from l.i (word_of l.identity) (acls_at l.device l.a l.n)
