use Prim.Native.Nat.{◌+◌, ◌*◌, ◌-◌, ◌≤◌}
use mathlib.Core.Path.{◌≡◌}
use mathlib.Core.Bool.{true}
use Rattle.base_definitions.specs.Lists.{all, any}
use Rattle.access_record.specs.Table.{scope_good}
use Rattle.access_record.specs.Record.{scopes_at, acl_at}
use Rattle.access_permission.specs.Permission.{grants}
use Rattle.access_verdict.proofs.grants.acl_grants.Given as goal

abbrev pub invariant-loop-k : goal.invariant-loop-k
invariant-loop-k l = record {
  inside : l.scopes + l.n * 72 ≤ 2960;
  good : all scope_good (scopes_at l.device (l.scopes + l.k * 72) (l.n - l.k)) ≡ true;
  same : any (grants l.counts l.key l.protected l.permission) (scopes_at l.device (l.scopes + l.k * 72) (l.n - l.k)) ≡ any (grants l.counts l.key l.protected l.permission) (acl_at l.device (16 + l.place * 368)).scopes;
}
