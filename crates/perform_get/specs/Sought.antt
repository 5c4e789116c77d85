-- The entry that an operation asks for by a key.
use Rattle.std.specs.Prelude.{List, ℕ}
use Rattle.std.proofs.Math.Option.{Option}
use Rattle.base_definitions.specs.Lists.{only}
use Rattle.access_record.specs.Record.{Placed}
use Rattle.access_permission.specs.Permissions.{READ}
use Rattle.store_block.specs.Entry.{Entry}
use Rattle.store_layout.specs.Entries.{next_of, previous_of}
use Rattle.operation_visible.specs.Seen.{seen_by}
use Rattle.protocol.specs.State.{State, entries}
use Rattle.protocol.specs.Judge.{entry_of}
use Rattle.perform_get.specs.declared.Which.{Which}
use Rattle.perform_get.specs.declared.Which.TheVariants.{Own, Next, Previous}

-- for a device record that holds the viewer's ACL
abbrev pub sought : Which → List ℕ → State → List ℕ → Option Entry
sought Own device s k = entry_of s k
sought (Next v) device s k = next_of k (only (seen_by device v READ) (entries s))
sought (Previous v) device s k = previous_of k (only (seen_by device v READ) (entries s))

-- the record has an ACL at the viewer's place
abbrev pub Looks : List ℕ → Which → Type 0
Looks device Own = Unit {0}
Looks device (Next v) = Placed device v.acl
Looks device (Previous v) = Placed device v.acl
