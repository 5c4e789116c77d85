-- What a reader finds in a reply, each by a look-up: the identity and the hmac, the connection, the sequence, the type, the body and the code.
use Rattle.std.specs.Prelude.{ℕ, ◌+◌, ◌*◌, List, [], get_or}
use Rattle.std.proofs.Math.Option.{Option, none, some}
use Rattle.fields_schema.specs.FieldNumbers.{Message-hmac_auth, HMACauth-identity, HMACauth-hmac, Command-header, Command-status, Header-connection_id, Header-ack_sequence, Header-message_type}
use Rattle.fields_schema.specs.FieldNumbers.{Body-key_value, Body-range, Body-get_log, KeyValue-key, KeyValue-db_version, KeyValue-tag, KeyValue-algorithm}
use Rattle.fields_schema.specs.FieldNumbers.{Range-keys, GetLog-utilizations, GetLog-temperatures, GetLog-capacity, GetLog-limits, Utilization-name}
use Rattle.fields_schema.specs.FieldNumbers.{Utilization-value, Capacity-nominal_capacity_in_bytes, Capacity-portion_full, Status-code}
use Rattle.fields_schema.specs.Tree.{map_o, then_o, is_some, Tree, int_at, raw_at, fix_at, sub_at, raws_at, subs_at}
use Rattle.log_readings.specs.Lent.{Sample}
use Rattle.base_definitions.specs.Lists.{map_l}
use Rattle.base_definitions.specs.Options.{or_else}
use Rattle.protocol.specs.Judge.{Capacity, Log, ReplyBody, bare, key_value, range, log}

-- a keyValue: "keyValue 3, 4, 5, 6, empty ones omitted"
abbrev pub entry_read : Tree → ReplyBody
entry_read t =
    key_value (or_else [] (raw_at KeyValue-key t)) (or_else [] (raw_at KeyValue-db_version t)) (or_else [] (raw_at KeyValue-tag t))
    (or_else 0 (int_at KeyValue-algorithm t))

-- a float's 32 bits: the lowest byte first
abbrev pub bits_of : List ℕ → ℕ
bits_of b = get_or b 0 0 + get_or b 1 0 * 256 + get_or b 2 0 * 65536 + get_or b 3 0 * 16777216

-- a log: utilizations and temperatures, each a name and a value if it has one; capacity; whether it has limits
abbrev pub sample_read : Tree → Sample
sample_read t = record { name = or_else [] (raw_at Utilization-name t); value = map_o bits_of (fix_at Utilization-value t) }

abbrev pub capacity_read : Tree → Capacity
capacity_read t =
    record { nominal = or_else 0 (int_at Capacity-nominal_capacity_in_bytes t); portion = or_else 0 (map_o bits_of (fix_at Capacity-portion_full t)) }

abbrev pub log_read : Tree → Log
log_read t =
    record {
      utilizations = map_l sample_read (subs_at GetLog-utilizations t);
      temperatures = map_l sample_read (subs_at GetLog-temperatures t);
      capacity = map_o capacity_read (sub_at GetLog-capacity t);
      limits = is_some (sub_at GetLog-limits t);
    }

-- the first of the three that is there: "The keyValue or range itself is there even when empty", and the getLog
abbrev pub part_read : Option Tree → Option Tree → Option Tree → ReplyBody
part_read (some k) r g = entry_read k
part_read none (some r) g = range (raws_at Range-keys r)
part_read none none (some g) = log (log_read g)
part_read none none none = bare

abbrev pub body_read : Option Tree → ReplyBody
body_read none = bare
body_read (some b) = part_read (sub_at Body-key_value b) (sub_at Body-range b) (sub_at Body-get_log b)

-- in the message of a reply: "HMACauth (the request's identity; hmac under the key that verified the request)"
abbrev pub identity_read : Tree → Option ℕ
identity_read t = then_o (sub_at Message-hmac_auth t) (λ a. int_at HMACauth-identity a)

abbrev pub hmac_read : Tree → Option (List ℕ)
hmac_read t = then_o (sub_at Message-hmac_auth t) (λ a. raw_at HMACauth-hmac a)

-- in its command: "header 3 (the connection's number), 6, 7; body; status with SUCCESS (1) or the code in field 1"
abbrev pub connection_read : Tree → Option ℕ
connection_read t = then_o (sub_at Command-header t) (λ h. int_at Header-connection_id h)

abbrev pub ack_sequence_read : Tree → Option ℕ
ack_sequence_read t = then_o (sub_at Command-header t) (λ h. int_at Header-ack_sequence h)

abbrev pub type_read : Tree → Option ℕ
type_read t = then_o (sub_at Command-header t) (λ h. int_at Header-message_type h)

abbrev pub code_read : Tree → Option ℕ
code_read t = then_o (sub_at Command-status t) (λ s. int_at Status-code s)
