-- Document 01, "Frame and fields", "Listed": for each kind of message, what each field number means; and "Replies", for reading replies.
-- GetLog by document 02, CR 1. The numbers by document 003 (FieldNumbers).
use Rattle.std.specs.Prelude.{ℕ, List, [], ◌∷◌, Bool, true, false, cond, eqb}
use Rattle.fields_schema.specs.FieldNumbers.{Message-auth_type, Message-hmac_auth, Message-pin_auth, Message-command_bytes, HMACauth-identity, HMACauth-hmac}
use Rattle.fields_schema.specs.FieldNumbers.{Command-header, Command-body, Command-status, Header-cluster_version, Header-connection_id, Header-sequence}
use Rattle.fields_schema.specs.FieldNumbers.{Header-ack_sequence, Header-message_type, Header-timeout, Header-early_exit, Header-priority, Header-time_quanta}
use Rattle.fields_schema.specs.FieldNumbers.{Header-batch_id, Body-key_value, Body-range, Body-setup, Body-p2p_operation, Body-get_log, Body-security}
use Rattle.fields_schema.specs.FieldNumbers.{Body-pin_op, Body-batch, Body-power, KeyValue-new_version, KeyValue-key, KeyValue-db_version, KeyValue-tag}
use Rattle.fields_schema.specs.FieldNumbers.{KeyValue-algorithm, KeyValue-metadata_only, KeyValue-force, KeyValue-synchronization, Range-start_key}
use Rattle.fields_schema.specs.FieldNumbers.{Range-end_key, Range-start_key_inclusive, Range-end_key_inclusive, Range-max_returned, Range-reverse, Range-keys}
use Rattle.fields_schema.specs.FieldNumbers.{Setup-new_cluster_version, Setup-firmware_download, GetLog-types, GetLog-utilizations, GetLog-temperatures}
use Rattle.fields_schema.specs.FieldNumbers.{GetLog-capacity, GetLog-limits, Utilization-name, Utilization-value, Temperature-name, Temperature-current}
use Rattle.fields_schema.specs.FieldNumbers.{Capacity-nominal_capacity_in_bytes, Capacity-portion_full, Limits-max_key_size, Limits-max_value_size}
use Rattle.fields_schema.specs.FieldNumbers.{Limits-max_version_size, Limits-max_tag_size, Limits-max_message_size, Limits-max_key_range_count}
use Rattle.fields_schema.specs.FieldNumbers.{Limits-max_identity_count, Security-acl, ACL-identity, ACL-key, ACL-hmac_algorithm, ACL-scope, Scope-offset}
use Rattle.fields_schema.specs.FieldNumbers.{Scope-value, Scope-permission, Scope-tls_required, Status-code}
use Rattle.fields_schema.specs.declared.Kind.{Kind}
use Rattle.fields_schema.specs.declared.Kind.TheVariants.{Message, HmacAuth, Command, Header, Body, KeyValue, Range, Setup, GetLog, Security, Acl, Scope, ReplyCommand, ReplyBody, ReplyRange, ReplyGetLog, Utilization, Temperature, Capacity, Limits, Status}
use Rattle.fields_schema.specs.declared.Names.{Names}
use Rattle.fields_schema.specs.declared.Names.TheVariants.{Priority, Algorithm, Synchronization, LogType, StatusCode}
use Rattle.fields_schema.specs.declared.Form.{Form}
use Rattle.fields_schema.specs.declared.Form.TheVariants.{Int64, Int32, Named, Flag, Bytes, Opaque, Float, Nested}
use Rattle.fields_schema.specs.declared.Rule.{Rule}
use Rattle.fields_schema.specs.declared.Rule.TheVariants.{Unlisted, Refused, Once, Single, Repeated}

-- the values that an enum names
abbrev pub names_of : Names → List ℕ
names_of Priority = 1 ∷ 3 ∷ 5 ∷ 7 ∷ 9 ∷ []
names_of Algorithm = 1 ∷ 2 ∷ 3 ∷ 4 ∷ 5 ∷ 6 ∷ []
names_of Synchronization = 1 ∷ 2 ∷ 3 ∷ []
names_of LogType = 0 ∷ 1 ∷ 2 ∷ 3 ∷ 4 ∷ 5 ∷ 6 ∷ 7 ∷ []
names_of StatusCode = 1 ∷ 2 ∷ 3 ∷ 4 ∷ 6 ∷ 7 ∷ 8 ∷ 14 ∷ 15 ∷ 16 ∷ 20 ∷ []

-- a table: a number and its rule; the first row of a number counts
pub data Table : Type 0 where
  end : Table
  row : ℕ → Rule → Table → Table

-- sent again, it follows the public encoding (document 02, CR 5)
abbrev single : ℕ → Form → Table → Table
single n f t = row n (Single f) t

-- sent again, it refuses the message: security of a body, and a singular field inside it
abbrev once : ℕ → Form → Table → Table
once n f t = row n (Once f) t

abbrev repeated : ℕ → Form → Table → Table
repeated n f t = row n (Repeated f) t

abbrev refused : ℕ → Table → Table
refused n t = row n Refused t

-- the document's m is Nested, s Int64 (of maxReturned Int32), e Int32 or Named, f Flag, b Bytes, r refused; what is not looked into is Opaque
abbrev command : Table
command = single Command-header (Nested Header) (single Command-body (Nested Body) (single Command-status Opaque end))

abbrev body : Table
body =
    single Body-key_value (Nested KeyValue) (single Body-range (Nested Range) (single Body-setup (Nested Setup) (refused Body-p2p_operation
    (single Body-get_log (Nested GetLog) (once Body-security (Nested Security) (refused Body-pin_op (refused Body-batch (refused Body-power end))))))))

abbrev range : Table
range =
    single Range-start_key Bytes (single Range-end_key Bytes (single Range-start_key_inclusive Flag (single Range-end_key_inclusive Flag
    (single Range-max_returned Int32 (single Range-reverse Flag (refused Range-keys end))))))

abbrev pub table_of : Kind → Table
table_of Message =
    single Message-auth_type Int32 (single Message-hmac_auth (Nested HmacAuth) (single Message-pin_auth Opaque (single Message-command_bytes Bytes end)))
table_of HmacAuth = single HMACauth-identity Int64 (single HMACauth-hmac Bytes end)
table_of Command = command
table_of Header =
    single Header-cluster_version Int64 (single Header-connection_id Int64 (single Header-sequence Int64 (single Header-ack_sequence Int64
    (single Header-message_type Int32 (single Header-timeout Int64 (single Header-early_exit Flag (single Header-priority (Named Priority)
    (single Header-time_quanta Int64 (refused Header-batch_id end)))))))))
table_of Body = body
table_of KeyValue =
    single KeyValue-new_version Bytes (single KeyValue-key Bytes (single KeyValue-db_version Bytes (single KeyValue-tag Bytes
    (single KeyValue-algorithm (Named Algorithm) (single KeyValue-metadata_only Flag (single KeyValue-force Flag
    (single KeyValue-synchronization (Named Synchronization) end)))))))
table_of Range = range
table_of Setup = single Setup-new_cluster_version Int64 (refused Setup-firmware_download end)
-- "a request's GetLog lists field 1 only": types, one per field
table_of GetLog = repeated GetLog-types (Named LogType) end
table_of Security = repeated Security-acl (Nested Acl) end
table_of Acl = once ACL-identity Int64 (once ACL-key Bytes (once ACL-hmac_algorithm Int32 (repeated ACL-scope (Nested Scope) end)))
-- "Permissions come one per field"
table_of Scope = once Scope-offset Int64 (once Scope-value Bytes (repeated Scope-permission Int32 (once Scope-tls_required Flag end)))
-- for reading replies, Range 8 is a repeated b, Status 1 is e code, and of GetLog "the fields of document 003 that a built reply sends are listed";
-- all else as listed above
table_of ReplyCommand = single Command-body (Nested ReplyBody) (single Command-status (Nested Status) command)
table_of ReplyBody = single Body-range (Nested ReplyRange) (single Body-get_log (Nested ReplyGetLog) body)
table_of ReplyRange = repeated Range-keys Bytes range
table_of ReplyGetLog =
    repeated GetLog-utilizations (Nested Utilization) (repeated GetLog-temperatures (Nested Temperature)
    (single GetLog-capacity (Nested Capacity) (single GetLog-limits (Nested Limits) end)))
table_of Utilization = single Utilization-name Bytes (single Utilization-value Float end)
table_of Temperature = single Temperature-name Bytes (single Temperature-current Float end)
table_of Capacity = single Capacity-nominal_capacity_in_bytes Int64 (single Capacity-portion_full Float end)
table_of Limits =
    single Limits-max_key_size Int64 (single Limits-max_value_size Int64 (single Limits-max_version_size Int64 (single Limits-max_tag_size Int64
    (single Limits-max_message_size Int64 (single Limits-max_key_range_count Int64 (single Limits-max_identity_count Int64 end))))))
table_of Status = single Status-code (Named StatusCode) end

abbrev pub look : ℕ → Table → Rule
look n end = Unlisted
look n (row m r t) = cond (eqb n m) r (look n t)

-- what a number means in a kind
abbrev pub rule_of : Kind → ℕ → Rule
rule_of k n = look n (table_of k)

-- unlisted numbers are framed and skipped, except inside Security, ACL and Scope, where they refuse the command
abbrev pub strict_of : Kind → Bool
strict_of Message = false
strict_of HmacAuth = false
strict_of Command = false
strict_of Header = false
strict_of Body = false
strict_of KeyValue = false
strict_of Range = false
strict_of Setup = false
strict_of GetLog = false
strict_of Security = true
strict_of Acl = true
strict_of Scope = true
strict_of ReplyCommand = false
strict_of ReplyBody = false
strict_of ReplyRange = false
strict_of ReplyGetLog = false
strict_of Utilization = false
strict_of Temperature = false
strict_of Capacity = false
strict_of Limits = false
strict_of Status = false
