-- Demand 2: what it is that reply bytes, read by the field rules for replies, give what the steps gave, and nothing else.
use Rattle.std.specs.Prelude.{ℕ, ◌≡◌, List}
use Rattle.std.proofs.Math.Option.{some}
use Rattle.fields_schema.specs.FieldNumbers.{Command-body}
use Rattle.fields_schema.specs.Tree.{map_o, sub_at}
use Rattle.fields_encoding.specs.Encode.{encode}
use Rattle.signature_hmac.specs.Hmac.{hmac}
use Rattle.protocol.specs.Frame.{Framing}
use Rattle.protocol.specs.State.{State}
use Rattle.protocol.specs.Reply.{ReplyMessage, reply_tree, reply_command, reply_value}
use Rattle.protocol.specs.Box.{reply_to}
use Rattle.protocol.specs.Says.{Says}
use Rattle.protocol.specs.PartsRead.{body_read, identity_read, hmac_read, connection_read, ack_sequence_read, type_read, code_read}
use Rattle.protocol.specs.ReplyContent.{ReplyContent, content_to}

-- the bytes are one whole frame, and their message, their command and their value part are exactly those of the reply
abbrev pub SaysReply : List ℕ → ReplyMessage → Type 0
SaysReply r t = Says r (reply_tree t) (reply_command t) (reply_value t)

-- what look-ups find in the message, the command and the value part of a reply on the connection of this number
pub record Gives (number : ℕ) (reply : ReplyMessage) (c : ReplyContent) : Type 0 where
  pub identity : identity_read (reply_tree reply) ≡ c.identity
  pub signature : hmac_read (reply_tree reply) ≡ map_o (λ key. hmac key (encode (reply_command reply))) c.key
  pub connection : connection_read (reply_command reply) ≡ some number
  pub ack_sequence : ack_sequence_read (reply_command reply) ≡ c.ack_sequence
  pub type : type_read (reply_command reply) ≡ c.type
  pub body : body_read (sub_at Command-body (reply_command reply)) ≡ c.body
  pub code : code_read (reply_command reply) ≡ some c.code
  pub value : reply_value reply ≡ c.value

-- the reply to an input: the bytes r say it and nothing else, and it gives what the steps gave
pub record Replied (s : State) (f : Framing) (r : List ℕ) : Type 0 where
  pub message : ReplyMessage
  pub is : reply_to s f ≡ some message
  pub says : SaysReply r message
  pub content : ReplyContent
  pub by_steps : content_to s f ≡ some content
  pub gives : Gives s.connection.number message content
