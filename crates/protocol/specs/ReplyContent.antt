-- What the steps of document 01 give for the reply to an input, part by part.
use Rattle.std.specs.Prelude.{ℕ, List, []}
use Rattle.std.proofs.Math.Option.{Option, none, some}
use Rattle.access_record.specs.Table as access
use Rattle.protocol.specs.StatusCode.{HMAC_FAILURE, INVALID_REQUEST, CONNECTION_TERMINATED}
use Rattle.protocol.specs.Frame.{Framing, more, closes, whole}
use Rattle.protocol.specs.State.{State}
use Rattle.protocol.specs.Command.{Command, command_of}
use Rattle.protocol.specs.MessageType.{INVALID_MESSAGE_TYPE}
use Rattle.protocol.specs.Operation.{asked_by, reply_type}
use Rattle.protocol.specs.Judge.{ReplyBody, bare, Result, judge}
use Rattle.protocol.specs.Reading.{Reading, closing, undecodable, read}
use Rattle.protocol.specs.Answer.{reading}
use Rattle.protocol.specs.Box.{box, acl_of, sequence_of, type_of}

pub record ReplyContent : Type 0 where
  -- the request's, and the key that verified it; none in a closing reply
  pub identity : Option ℕ
  pub key : Option (List ℕ)
  pub ack_sequence : Option ℕ
  pub type : Option ℕ
  pub body : ReplyBody
  pub code : ℕ
  pub value : List ℕ

-- steps 1 and 2: "Closing replies: …; header 3 and status only"
abbrev pub closing_content : ℕ → ReplyContent
closing_content code = record { identity = none; key = none; ack_sequence = none; type = none; body = bare; code = code; value = [] }

-- step 3: field 6 "omitted if the command doesn't decode", type "-1 where no built request is read"
abbrev pub invalid_content : ℕ → List ℕ → ReplyContent
invalid_content i key =
    record { identity = some i; key = some key; ack_sequence = none; type = some INVALID_MESSAGE_TYPE; body = bare; code = INVALID_REQUEST; value = [] }

-- steps 4 to 10: what was judged of the command c
abbrev pub judged_content : ℕ → List ℕ → Command → Result → ReplyContent
judged_content i key c r =
    record {
      identity = some i;
      key = some key;
      ack_sequence = sequence_of c.header;
      type = some (reply_type (asked_by (type_of c.header)));
      body = r.body;
      code = r.code;
      value = r.value;
    }

abbrev pub judged_by : State → ℕ → List ℕ → Command → List ℕ → Option access.Acl → ReplyContent
judged_by s i key c v none = closing_content HMAC_FAILURE
judged_by s i key c v (some a) = judged_content i key c (judge s a c v)

abbrev pub content_of : State → List ℕ → Reading → ReplyContent
content_of s v (closing code) = closing_content code
content_of s v (undecodable i key) = invalid_content i key
content_of s v (read i key t) = judged_by s i key (command_of t) v (acl_of s i)

-- MORE is a refusal: it has no reply
abbrev pub content_to : State → Framing → Option ReplyContent
content_to s more = none
content_to s closes = some (closing_content CONNECTION_TERMINATED)
content_to s (whole m v rest) = some (content_of s v (reading box s m))
