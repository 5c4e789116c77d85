-- The box: document 01 and CR 1 of document 02 whole, as one device of `Answer`.
use Rattle.std.specs.Prelude.{List, [], ℕ, Option as Maybe, Some, None}
use Rattle.std.proofs.Math.Option.{Option, none, some}
use Rattle.fields_schema.specs.Tree.{Tree, map_o}
use Rattle.access_record.specs.Table as access
use Rattle.access_record.specs.Table.{place_of, table_good}
use Rattle.store_layout.specs.Store.{store_good}
use Rattle.log_readings.specs.Lent.{readings_good}
use Rattle.signature_hmac.specs.Hmac.{hmac}
use Rattle.protocol.specs.State.{State, table, closing}
use Rattle.protocol.specs.Command.{Header, Command, command_of}
use Rattle.protocol.specs.MessageType.{INVALID_MESSAGE_TYPE}
use Rattle.protocol.specs.Operation.{asked_by, reply_type}
use Rattle.protocol.specs.Judge.{Result, judge, bare}
use Rattle.protocol.specs.Reply.{ReplyMessage, signed_by, closing_with, command_tree}
use Rattle.protocol.specs.Answer.{Device, Reply, reply, Outcome, reading, respond, answer}
use Rattle.protocol.specs.StatusCode.{HMAC_FAILURE, INVALID_REQUEST, CONNECTION_TERMINATED}
use Rattle.protocol.specs.Frame.{Framing, more, closes, whole}

-- step 2: the ACL of an identity
abbrev pub acl_at : State → Maybe ℕ → Option access.Acl
acl_at s (Some i) = some (access.acl_of (table s) i)
acl_at s None = none

abbrev pub acl_of : State → ℕ → Option access.Acl
acl_of s i = acl_at s (place_of (table s) i)

-- "Otherwise … and close"
abbrev pub close : State → ℕ → Reply State
close s code = reply (closing_with s.connection.number code) (closing s)

-- step 3: INVALID_REQUEST (16), type -1, no field 6
abbrev pub invalid : State → ℕ → List ℕ → ReplyMessage
invalid s i key = signed_by i key (command_tree s.connection.number none INVALID_MESSAGE_TYPE bare INVALID_REQUEST) []

abbrev pub sequence_of : Option Header → Option ℕ
sequence_of none = none
sequence_of (some h) = h.sequence

abbrev pub type_of : Option Header → Option ℕ
type_of none = none
type_of (some h) = h.message_type

-- the reply to a command that decodes, and what is lent afterwards
abbrev pub command_reply : State → ℕ → List ℕ → Command → Result → Reply State
command_reply s i key c r =
    reply (signed_by i key (command_tree s.connection.number (sequence_of c.header) (reply_type (asked_by (type_of c.header))) r.body r.code) r.value)
    r.state

abbrev pub judged : State → ℕ → List ℕ → Command → List ℕ → Option access.Acl → Reply State
judged s i key c v none = close s HMAC_FAILURE
judged s i key c v (some a) = command_reply s i key c (judge s a c v)

-- steps 4 to 10
unfoldable pub decide : State → ℕ → List ℕ → Tree → List ℕ → Reply State
decide s i key t v = judged s i key (command_of t) v (acl_of s i)

abbrev pub box : Device
box =
    record {
      State = State;
      store_good = λ s. store_good s.store;
      record_good = λ s. table_good (table s);
      closed = λ s. s.connection.closed;
      readings_good = λ s. readings_good s.readings;
      key_of = λ s i. map_o (λ a. a.key) (acl_of s i);
      hmac = hmac;
      close = close;
      invalid = invalid;
      decide = decide;
    }

-- the answering call: the lent state, the length of the reply buffer, the input
abbrev pub answers : State → ℕ → List ℕ → Outcome State
answers s out xs = answer box s out xs

-- the reply to an input. MORE is a refusal: it has none
abbrev pub message_in : Reply State → ReplyMessage
message_in (reply r s) = r

abbrev pub reply_to : State → Framing → Option ReplyMessage
reply_to s more = none
reply_to s closes = some (message_in (close s CONNECTION_TERMINATED))
reply_to s (whole m v rest) = some (message_in (respond box s v (reading box s m)))
