-- The parts of a command in the runs that a writer makes of them, from its end to its front.
use Rattle.std.specs.Prelude.{ℕ, List, []}
use Rattle.fields_schema.specs.FieldNumbers.{Command-body, Body-key_value, Body-range, Body-get_log, KeyValue-key, KeyValue-db_version, KeyValue-tag}
use Rattle.fields_schema.specs.FieldNumbers.{KeyValue-algorithm, Range-keys}
use Rattle.fields_schema.specs.Tree.{done, sub}
use Rattle.fields_encoding.specs.Encode.{len_field, encode, int_if, raw_if, each}
use Rattle.protocol.specs.Judge.{ReplyBody, bare, key_value, range, log}
use Rattle.protocol.specs.Reply.{log_tree}

-- the bytes of a body
abbrev pub body_bytes : ReplyBody → List ℕ
body_bytes bare = []
body_bytes (key_value k v g a) =
    len_field Command-body
    (encode (sub Body-key_value (raw_if KeyValue-key k (raw_if KeyValue-db_version v (raw_if KeyValue-tag g (int_if KeyValue-algorithm a done)))) done))
body_bytes (range ks) = len_field Command-body (encode (sub Body-range (each Range-keys ks done) done))
body_bytes (log g) = len_field Command-body (encode (sub Body-get_log (log_tree g) done))
