-- What reply bytes say, read by the field rules for replies.
use Rattle.std.specs.Prelude.{ℕ, ◌≤◌, ◌≡◌, List, [], length}
use Rattle.std.proofs.Math.Option.{some}
use Rattle.fields_schema.specs.FieldNumbers.{Message-command_bytes}
use Rattle.fields_schema.specs.Tree.{Tree, listed, raw_at}
use Rattle.fields_schema.specs.declared.Kind.TheVariants.{Message, ReplyCommand}
use Rattle.protocol.specs.Frame.{frame_of, whole}

-- r is one whole frame with the value part; its message says `message`, its commandBytes say `command`; and it is short
pub record Says (r : List ℕ) (message command : Tree) (value : List ℕ) : Type 0 where
  -- the message's bytes, the commandBytes
  pub bytes : List ℕ
  pub command_bytes : List ℕ
  pub framed : frame_of r ≡ whole bytes value []
  pub message_read : listed Message bytes ≡ some message
  pub carries : raw_at Message-command_bytes message ≡ some command_bytes
  pub command_read : listed ReplyCommand command_bytes ≡ some command
  -- it fits every reply buffer that is not refused
  pub short : length r ≤ 4096
