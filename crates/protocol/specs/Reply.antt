-- Document 01, "Replies": what a reply says, as trees, and its bytes: "Fields ascending, shortest varints." The log by document 02, CR 1.
use Rattle.std.specs.Prelude.{List, [], ℕ}
use Rattle.std.proofs.Math.Option.{Option}
use Rattle.fields_schema.specs.FieldNumbers.{Message-auth_type, Message-hmac_auth, Message-command_bytes, HMACauth-identity, HMACauth-hmac, Command-header}
use Rattle.fields_schema.specs.FieldNumbers.{Command-body, Command-status, Header-connection_id, Header-ack_sequence, Header-message_type, Body-key_value}
use Rattle.fields_schema.specs.FieldNumbers.{Body-range, Body-get_log, KeyValue-key, KeyValue-db_version, KeyValue-tag, KeyValue-algorithm, Range-keys}
use Rattle.fields_schema.specs.FieldNumbers.{GetLog-utilizations, GetLog-temperatures, GetLog-capacity, GetLog-limits, Utilization-name, Utilization-value}
use Rattle.fields_schema.specs.FieldNumbers.{Capacity-nominal_capacity_in_bytes, Capacity-portion_full, Limits-max_key_size, Limits-max_value_size}
use Rattle.fields_schema.specs.FieldNumbers.{Limits-max_version_size, Limits-max_tag_size, Limits-max_message_size, Limits-max_key_range_count, Limits-max_identity_count}
use Rattle.fields_schema.specs.FieldNumbers.{Status-code}
use Rattle.fields_schema.specs.Tree.{map_o, guard, Tree, done, int, raw, fix, sub}
use Rattle.fields_encoding.specs.Encode.{encode, int_o, int_if, raw_if, float_bytes, fix_o, each, sub_o, each_sub}
use Rattle.signature_hmac.specs.Hmac.{hmac}
use Rattle.protocol.specs.Frame.{frame}
use Rattle.log_readings.specs.Lent.{Sample}
use Rattle.base_definitions.specs.Lists.{map_l}
use Rattle.protocol.specs.Judge.{Capacity, Log, ReplyBody, bare, key_value, range, log}
use Rattle.protocol.specs.AuthType.{HMACAUTH, UNSOLICITEDSTATUS}

-- "header 3 (the connection's number), 6, 7"; "Field 6 is the request's sequence, omitted if the command doesn't decode or has none"
abbrev pub header_tree : ℕ → Option ℕ → ℕ → Tree
header_tree connection ack type = int Header-connection_id connection (int_o Header-ack_sequence ack (int Header-message_type type done))

-- a utilization, or a temperature, whose name and current have the same numbers: "A value that isn't finite … is omitted, its name still sent"
abbrev pub sample_tree : Sample → Tree
sample_tree r = raw Utilization-name r.name (fix_o Utilization-value (map_o float_bytes r.value) done)

-- a capacity: both are sent, whatever they are
abbrev pub capacity_tree : Capacity → Tree
capacity_tree c = int Capacity-nominal_capacity_in_bytes c.nominal (fix Capacity-portion_full (float_bytes c.portion) done)

-- "Limits show key 64, value 384, version 16, tag 32, message 8,192, range count 32, identities 8; others are omitted"
abbrev pub limits_tree : Tree
limits_tree =
    int Limits-max_key_size 64 (int Limits-max_value_size 384 (int Limits-max_version_size 16 (int Limits-max_tag_size 32
    (int Limits-max_message_size 8192 (int Limits-max_key_range_count 32 (int Limits-max_identity_count 8 done))))))

-- "The reply omits field 1 (house)", types
abbrev pub log_tree : Log → Tree
log_tree g =
    each_sub GetLog-utilizations (map_l sample_tree g.utilizations) (each_sub GetLog-temperatures (map_l sample_tree g.temperatures)
    (sub_o GetLog-capacity (map_o capacity_tree g.capacity) (sub_o GetLog-limits (guard g.limits limits_tree) done)))

-- "keyValue 3, 4, 5, 6, empty ones omitted"; "The keyValue or range itself is there even when empty"
abbrev pub body_tree : ReplyBody → Tree → Tree
body_tree bare t = t
body_tree (key_value k v g a) t =
    sub Command-body (sub Body-key_value (raw_if KeyValue-key k (raw_if KeyValue-db_version v (raw_if KeyValue-tag g (int_if KeyValue-algorithm a done)))) done) t
body_tree (range ks) t = sub Command-body (sub Body-range (each Range-keys ks done) done) t
-- "the GetLog … is there even when empty"
body_tree (log g) t = sub Command-body (sub Body-get_log (log_tree g) done) t

-- "status with SUCCESS (1) or the code in field 1"
abbrev pub status_tree : ℕ → Tree
status_tree code = sub Command-status (int Status-code code done) done

-- "Command: header 3 …, 6, 7; body; status"
abbrev pub command_tree : ℕ → Option ℕ → ℕ → ReplyBody → ℕ → Tree
command_tree connection ack type body code = sub Command-header (header_tree connection ack type) (body_tree body (status_tree code))

-- "Message 4 = 1, HMACauth (the request's identity; hmac under the key that verified the request), 7"
abbrev pub signed_tree : ℕ → List ℕ → List ℕ → Tree
signed_tree identity key command =
    int Message-auth_type HMACAUTH (sub Message-hmac_auth (int HMACauth-identity identity (raw HMACauth-hmac (hmac key command) done))
    (raw Message-command_bytes command done))

-- "Closing replies: Message 4 = 3 and 7; header 3 and status only"
abbrev pub closing_command : ℕ → ℕ → Tree
closing_command connection code = sub Command-header (int Header-connection_id connection done) (status_tree code)

abbrev pub closing_tree : List ℕ → Tree
closing_tree command = int Message-auth_type UNSOLICITEDSTATUS (raw Message-command_bytes command done)

-- a reply: signed, by the identity, the key that verified the request, the command and the value part; or closing, by the connection's number and the code
pub data ReplyMessage : Type 0 where
  signed_by : ℕ → List ℕ → Tree → List ℕ → ReplyMessage
  closing_with : ℕ → ℕ → ReplyMessage

-- its command, its message and its value part
abbrev pub reply_command : ReplyMessage → Tree
reply_command (signed_by identity key command value) = command
reply_command (closing_with connection code) = closing_command connection code

abbrev pub reply_tree : ReplyMessage → Tree
reply_tree (signed_by identity key command value) = signed_tree identity key (encode command)
reply_tree (closing_with connection code) = closing_tree (encode (closing_command connection code))

abbrev pub reply_value : ReplyMessage → List ℕ
reply_value (signed_by identity key command value) = value
reply_value (closing_with connection code) = []

-- whole, framed, with the value part
unfoldable pub signed_reply : ℕ → List ℕ → Tree → List ℕ → List ℕ
signed_reply identity key command value = frame (encode (reply_tree (signed_by identity key command value))) value

unfoldable pub closing_reply : ℕ → ℕ → List ℕ
closing_reply connection code = frame (encode (reply_tree (closing_with connection code))) []

abbrev pub reply_bytes : ReplyMessage → List ℕ
reply_bytes (signed_by identity key command value) = signed_reply identity key command value
reply_bytes (closing_with connection code) = closing_reply connection code
