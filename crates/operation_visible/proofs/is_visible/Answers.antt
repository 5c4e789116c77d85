use mathlib.Core.Path.{ap, ◌∙◌}
use mathlib.Core.List.{List}
use Prim.Native.Nat.{ℕ}
use Rattle.access_record.specs.Table.{acl_of}
use Rattle.access_record.specs.Record.{table_of}
use Rattle.access_permission.specs.Permission.{permits}
use Rattle.operation_visible.specs.SeenLaws.{key-part}
use Rattle.operation_visible.proofs.is_visible.Goals as goal

pub returns : goal.returns
returns c =
    let e = c.entry_at-entry in
    let v = c.args.viewer in
    c.permits.ensures
    ∙ ap (λ (k : List ℕ). permits (acl_of (table_of c.args.device.now) v.acl) v.protected c.args.permission k)
    (key-part c.args.store.now c.args.i e.result e.ensures c.requires.0)
