-- A reply, by what it repeats of its request.
use Rattle.std.specs.Prelude.{List, ℕ}
use Rattle.std.specs.Option.{option_map}
use Rattle.std.proofs.Math.Option.{Option}
use Rattle.base_integers.specs.Signed.{word_of}
use Rattle.fields_schema.specs.Tree.{Tree}
use Rattle.fields_write_bytes.specs.Pushed.{maybe}
use Rattle.protocol.specs.Judge.{ReplyBody}
use Rattle.protocol.specs.Reply.{ReplyMessage, signed_by, header_tree, command_tree, reply_bytes}
use Rattle.reply_command.specs.declared.ReplyTo.{ReplyTo}

-- the request's sequence, if it has one
abbrev pub ack_of : ReplyTo → Option ℕ
ack_of to = maybe (option_map word_of to.sequence)

abbrev pub header_to : ReplyTo → Tree
header_to to = header_tree (word_of to.connection) (ack_of to) to.kind

abbrev pub command_to : ReplyTo → ReplyBody → ℕ → Tree
command_to to body code = command_tree (word_of to.connection) (ack_of to) to.kind body code

-- the reply, signed under a key, and its bytes
abbrev pub message_to : ReplyTo → List ℕ → ReplyBody → ℕ → List ℕ → ReplyMessage
message_to to key body code value = signed_by (word_of to.identity) key (command_to to body code) value

abbrev pub signed_reply_to : ReplyTo → List ℕ → ReplyBody → ℕ → List ℕ → List ℕ
signed_reply_to to key body code value = reply_bytes (message_to to key body code value)
