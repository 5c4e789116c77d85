-- What a response means.
use Rattle.std.specs.Prelude.{◌≡◌, List, ◌++◌, ℕ, ◌^◌, ◌<◌, length, drop, Result, Ok, Err}
use Rattle.protocol.specs.State as state
use Rattle.protocol.specs.State.{State, lent}
use Rattle.protocol.specs.Answer.{Outcome, refused, answered}
use Rattle.protocol.specs.Box.{answers}
use Rattle.protocol_connection.specs.ConnectionOf.{connection_of}
use Rattle.reply_send.specs.Answers.{LentBytes}
use Rattle.device_response.specs.declared.Answered.{Answered}
use Rattle.device_response.specs.declared.Refusal.{Refusal}
use Rattle.device_response.specs.declared.Refusal.TheVariants.{OutShort, StoreBad, DeviceBad, Closed, More, ReadingsBad}
use Rattle.base_definitions.specs.Refusals.{OUT_SHORT, STORE_BAD, DEVICE_BAD, CLOSED, MORE, READINGS_BAD}

-- a call: its refusal by document 01's number, or 0; the bytes of the reply and of the input taken; and all that is lent afterwards
pub record Called : Type 0 where
  pub refusal : ℕ
  pub written : ℕ
  pub taken : ℕ
  pub state : State
  pub out : List ℕ

-- "Nothing lent changes, no input is taken, no reply is written."
abbrev pub refusing : ℕ → State → List ℕ → Called
refusing n s out = record { refusal = n; written = 0; taken = 0; state = s; out = out }

abbrev pub answering : ℕ → ℕ → State → List ℕ → Called
answering written taken after out = record { refusal = 0; written = written; taken = taken; state = after; out = out }

-- document 01's number of a refusal
abbrev pub number_of : Refusal → ℕ
number_of OutShort = OUT_SHORT
number_of StoreBad = STORE_BAD
number_of DeviceBad = DEVICE_BAD
number_of Closed = CLOSED
number_of More = MORE
number_of ReadingsBad = READINGS_BAD

-- the code's answer
abbrev pub Response : Type 0
Response = Result Answered Refusal

-- what it says, with the connection and the readings of the call, and the store, the device record and the reply buffer after it
abbrev pub called : state.Connection → List ℕ → Response → List ℕ → List ℕ → List ℕ → Called
called c readings (Err refusal) store device out = refusing (number_of refusal) (lent store device readings c) out
called c readings (Ok a) store device out = answering a.written a.taken (lent store device readings (connection_of a.connection)) out

-- what an outcome leaves of a state and a reply buffer: "reply in the first bytes of the buffer, the rest of it unchanged, and the number of input bytes taken"
abbrev pub afterwards : State → List ℕ → Outcome State → Called
afterwards s out (refused n) = refusing n s out
afterwards s out (answered bytes after taken) = answering (length bytes) taken after (bytes ++ drop (length bytes) out)

-- `Answers` of the whole call, which may also refuse: an outcome of a state s is what the response says, with the reply buffer and the state t after the call;
-- the connection of t is that of s, and a response with a reply has the one that takes its place
abbrev pub AnswersOrRefuses : (State → Outcome State) → State → LentBytes → Response → State → Type 0
AnswersOrRefuses outcome s out r t = called t.connection t.readings r t.store t.device out.exit.now ≡ afterwards s out.entry.now (outcome s)

-- the answering call on an input: it answers or refuses as `answers` says; and the number of the connection is a 64-bit word, as its type has it
abbrev pub AnsweringCall : List ℕ → State → LentBytes → Response → State → Type 0
AnsweringCall input s out r t = AnswersOrRefuses (λ s. answers s (length out.entry.now) input) s out r t × (s.connection.number < 2 ^ 64)
