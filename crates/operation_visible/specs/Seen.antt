-- What the code's viewer sees, beside the definitions of `Judge`.
use Rattle.std.specs.Prelude.{Bool, List, ℕ}
use Rattle.access_record.specs.Table.{Acl, acl_of}
use Rattle.access_record.specs.Record.{table_of}
use Rattle.access_permission.specs.Permission.{permits}
use Rattle.store_block.specs.Entry.{Entry}
use Rattle.operation_visible.specs.declared.Viewer.{Viewer}

abbrev pub sees : Acl → Bool → ℕ → Entry → Bool
sees a protected permission e = permits a protected permission e.key

-- by the record that holds the ACL
abbrev pub seen_by : List ℕ → Viewer → ℕ → Entry → Bool
seen_by device v permission = sees (acl_of (table_of device) v.acl) v.protected permission
