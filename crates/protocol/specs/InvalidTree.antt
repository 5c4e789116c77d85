-- The reply to a command that does not decode, spelled out.
use Rattle.std.specs.Prelude.{ℕ}
use Rattle.fields_schema.specs.FieldNumbers.{Command-header, Command-status, Header-connection_id, Header-message_type, Status-code}
use Rattle.fields_schema.specs.Tree.{Tree, done, int, sub}
use Rattle.protocol.specs.StatusCode.{INVALID_REQUEST}
use Rattle.protocol.specs.MessageType.{INVALID_MESSAGE_TYPE}

-- INVALID_REQUEST, type -1, no field 6: "-1 where no built request is read, as when the command doesn't decode"
abbrev pub invalid_tree : ℕ → Tree
invalid_tree connection =
    sub Command-header (int Header-connection_id connection (int Header-message_type INVALID_MESSAGE_TYPE done)) (sub Command-status (int Status-code INVALID_REQUEST done) done)
