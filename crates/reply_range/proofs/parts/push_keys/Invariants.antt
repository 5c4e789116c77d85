use Prim.Native.Nat.{◌+◌, ◌*◌, ◌-◌, ◌≤◌}
use lib.ListN.{take, drop}
use Rattle.fields_schema.specs.Tree.{done}
use Rattle.fields_encoding.specs.Encode.{encode, each}
use Rattle.fields_write_bytes.specs.Pushed.{Pushed}
use Rattle.store_layout.specs.Store.{entries_of}
use Rattle.operation_range.specs.Keys.{keys_at}
use Rattle.reply_range.proofs.parts.push_keys.Given as goal

abbrev pub invariant-loop-i : goal.invariant-loop-i
invariant-loop-i l = (l.i ≤ l.count) × (79 * l.i ≤ l.p) × (l.at ≤ l.p + 79 * (l.count - l.i)) × Pushed l.p l.at (encode (each 8 (drop l.i (keys_at (entries_of l.store) (take l.count l.places))) done)) l.initial.out l.out
