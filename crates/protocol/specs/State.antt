-- What is lent to the box: the store, the device record, the readings and the connection. The one place that makes and changes a State.
use Rattle.std.specs.Prelude.{Bool, true, false, List, ℕ}
use Rattle.std.proofs.Math.Option.{Option, none, some}
use Rattle.access_record.specs.Table.{Table}
use Rattle.access_record.specs.Record.{table_of}
use Rattle.store_block.specs.Entry.{Entry}
use Rattle.store_layout.specs.Store.{entries_of}

-- "Connect: connection number, protected or not; no sequence seen yet". Numbers are 64-bit words; last is the last accepted sequence
pub record Connection : Type 0 where
  pub number : ℕ
  pub protected : Bool
  pub closed : Bool
  pub last : Option ℕ

pub record State : Type 0 where
  pub store : List ℕ
  pub device : List ℕ
  -- document 02, CR 1: no call changes them
  pub readings : List ℕ
  pub connection : Connection

-- the four together
abbrev pub lent : List ℕ → List ℕ → List ℕ → Connection → State
lent store device readings c = record { store = store; device = device; readings = readings; connection = c }

abbrev pub table : State → Table
table s = table_of s.device

abbrev pub entries : State → List Entry
entries s = entries_of s.store

abbrev pub connected : ℕ → Bool → Connection
connected n p = record { number = n; protected = p; closed = false; last = none }

abbrev pub with_store : State → List ℕ → State
with_store s l = record { store = l; device = s.device; readings = s.readings; connection = s.connection }

abbrev pub with_device : State → List ℕ → State
with_device s l = record { store = s.store; device = l; readings = s.readings; connection = s.connection }

abbrev pub with_connection : State → Connection → State
with_connection s c = record { store = s.store; device = s.device; readings = s.readings; connection = c }

abbrev pub with_closed : Connection → Connection
with_closed c = record { number = c.number; protected = c.protected; closed = true; last = c.last }

-- the connection closed
abbrev pub closing : State → State
closing s = with_connection s (with_closed s.connection)

abbrev pub with_sequence : Connection → ℕ → Connection
with_sequence c q = record { number = c.number; protected = c.protected; closed = c.closed; last = some q }

-- step 6: "From here the sequence counts as accepted, whatever follows"
abbrev pub accepted : State → ℕ → State
accepted s q = with_connection s (with_sequence s.connection q)
