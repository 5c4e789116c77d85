-- The relation that the calls from `device` down to `reply_send` keep between what is lent before and after, and what was answered.
use Rattle.std.specs.Prelude.{List, ℕ}
use Rattle.std.specs.Borrow.{Bor, MutBor}
use denote.Triple.Both.{Both}
use Rattle.protocol.specs.State.{Connection, State, lent}
use Rattle.protocol.specs.Answer.{Reply}
use Rattle.reply_send.specs.Sent.{Sent}

-- bytes lent to a call, as it finds them and as it leaves them
abbrev pub LentBytes : Type 0
LentBytes = Both (MutBor (List ℕ)) (MutBor (List ℕ))

-- bytes lent to a call to be read only
abbrev pub ReadBytes : Type 0
ReadBytes = Both (Bor (List ℕ)) (Bor (List ℕ))

-- what is lent before a call: the store, the device record, the readings, and the connection
abbrev pub before : LentBytes → LentBytes → ReadBytes → Connection → State
before store device readings c = lent store.entry.now device.entry.now readings.entry.now c

-- and after it: no call changes the readings
abbrev pub after : LentBytes → LentBytes → ReadBytes → Connection → State
after store device readings c = lent store.exit.now device.exit.now readings.entry.now c

-- a step from a state s: its reply is the first n bytes of the reply buffer, the rest of the buffer is as it was, and it leaves the state t
abbrev pub Answers : (State → Reply State) → State → LentBytes → ℕ → State → Type 0
Answers step s out n t = Sent (step s) n out.entry.now out.exit.now t
