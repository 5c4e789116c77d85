-- What may come between two calls.
use Rattle.std.specs.Prelude.{ℕ, ◌≡◌, ◌⊎◌, Bool, true, false, List}
use Rattle.fields_schema.specs.Tree.{Tree}
use Rattle.protocol.specs.declared.Operation.{Operation}
use Rattle.protocol.specs.declared.Operation.TheVariants.{Noop, Get, GetVersion, GetNext, GetPrevious, GetKeyRange, Put, Delete, FlushAllData, Setup, GetLog, Security}
use Rattle.protocol.specs.State.{State, accepted}
use Rattle.protocol.specs.Frame.{frame_of, whole}
use Rattle.protocol.specs.Reading.{read}
use Rattle.protocol.specs.Answer.{answered, reading}
use Rattle.protocol.specs.Box.{box, answers}
use Rattle.protocol_guarantees.specs.Answered.{Asks, key_value_sent}

-- the input is no frame with a rightly signed message that decodes as such a command
abbrev pub Without : (Tree → Type 0) → State → List ℕ → Type 0
Without P s xs = (m v rest : List ℕ) (i : ℕ) (key : List ℕ) (t : Tree) → frame_of xs ≡ whole m v rest → reading box s m ≡ read i key t → P t → ⊥

-- NOOP, FLUSHALLDATA and what only reads
abbrev pub only_reads : Operation → Bool
only_reads Noop = true
only_reads FlushAllData = true
only_reads Get = true
only_reads GetVersion = true
only_reads GetNext = true
only_reads GetPrevious = true
only_reads GetKeyRange = true
only_reads GetLog = true
only_reads Put = false
only_reads Delete = false
only_reads Setup = false
only_reads Security = false

-- nothing changed, but for a sequence that counts as accepted
abbrev pub OnlySequence : State → State → Type 0
OnlySequence s s' = (s' ≡ s) ⊎ ((q : ℕ) × (s' ≡ accepted s q))

-- the command is a PUT or a DELETE of the key
abbrev pub Changes : List ℕ → Tree → Type 0
Changes k t = (Asks t Put ⊎ Asks t Delete) × ((key_value_sent t).key ≡ k)

-- on a connection: any calls that are answered (one that is refused changes nothing); and on other connections, or by the host, anything with the store,
-- the record and the readings
pub data Later (s : State) : State → Type 0 where
  now : Later s s
  call : {s' : State} (room : ℕ) (xs r : List ℕ) (s'' : State) (n : ℕ) → Later s s' → answers s' room xs ≡ answered r s'' n → Later s s''
  elsewhere : {s' : State} (s'' : State) → Later s s' → s''.connection ≡ s'.connection → Later s s''

-- on any connections: any calls that are answered, none of them a PUT or a DELETE of the key k; and anything with the record, the readings and the connection
pub data Spared (k : List ℕ) (s : State) : State → Type 0 where
  now : Spared k s s
  call : {s' : State} (room : ℕ) (xs r : List ℕ) (s'' : State) (n : ℕ) → Spared k s s' → Without (Changes k) s' xs → answers s' room xs ≡ answered r s'' n → Spared k s s''
  elsewhere : {s' : State} (s'' : State) → Spared k s s' → s''.store ≡ s'.store → Spared k s s''

-- on any connections: any calls that are answered; between them anything with the readings and the connection, and store and record as they were left
pub data Served (s : State) : State → Type 0 where
  now : Served s s
  call : {s' : State} (room : ℕ) (xs r : List ℕ) (s'' : State) (n : ℕ) → Served s s' → answers s' room xs ≡ answered r s'' n → Served s s''
  elsewhere : {s' : State} (s'' : State) → Served s s' → s''.store ≡ s'.store → s''.device ≡ s'.device → Served s s''
