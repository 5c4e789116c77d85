-- What the structs of a header, a keyValue and a range mean over the bytes that they point into, by the names of document 01's list.
-- "Absent bytes are empty, flags false, clusterVersion and offset 0."
use Rattle.std.specs.Prelude.{◌≡◌, List, [], ℕ, ◌≤◌}
use Rattle.fields_lookup.specs.Views.{num_view, signed_view, part_view, Lies}
use Rattle.protocol.specs.Command as c
use Rattle.base_definitions.specs.Options.{or_else}
use Rattle.protocol.specs.Command.{flag}
use Rattle.fields_schema.specs.FieldNumbers.{Header-cluster_version, Header-connection_id, Header-sequence, Header-message_type, KeyValue-new_version, KeyValue-key}
use Rattle.fields_schema.specs.FieldNumbers.{KeyValue-db_version, KeyValue-tag, KeyValue-algorithm, KeyValue-metadata_only, KeyValue-force, Range-start_key}
use Rattle.fields_schema.specs.FieldNumbers.{Range-end_key, Range-start_key_inclusive, Range-end_key_inclusive, Range-max_returned, Range-reverse}
use Rattle.fields_schema.specs.Tree.{Tree, int_at, raw_at}
use Rattle.request_parts.specs.declared.Header.{Header}
use Rattle.request_parts.specs.declared.KeyValue.{KeyValue}
use Rattle.request_parts.specs.declared.Range.{Range}

abbrev pub header_view : Header → c.Header
header_view h =
    record {
      cluster_version = or_else 0 (signed_view h.cluster);
      connection_id = signed_view h.connection;
      sequence = signed_view h.sequence;
      message_type = num_view h.kind;
    }

abbrev pub key_value_view : List ℕ → KeyValue → c.KeyValue
key_value_view s k =
    record {
      new_version = or_else [] (part_view s k.version);
      key = or_else [] (part_view s k.key);
      db_version = or_else [] (part_view s k.expected);
      tag = or_else [] (part_view s k.tag);
      algorithm = or_else 0 (num_view k.algorithm);
      metadata_only = flag (num_view k.metadata);
      force = flag (num_view k.force);
    }

-- every part lies inside the command, and is empty where there is none; an algorithm is one of 1 to 6, and 0 where there is none
pub record KeyValueLies (s : List ℕ) (k : KeyValue) : Type 0 where
  pub version : Lies s k.version
  pub key : Lies s k.key
  pub expected : Lies s k.expected
  pub tag : Lies s k.tag
  pub algorithm : or_else 0 (num_view k.algorithm) ≤ 6

-- "maxReturned 0 to 32, absent means 32"
abbrev pub range_view : List ℕ → Range → c.Range
range_view s r =
    record {
      start_key = part_view s r.start;
      end_key = part_view s r.end;
      start_inclusive = flag (num_view r.first);
      end_inclusive = flag (num_view r.last);
      max_returned = or_else 32 (num_view r.limit);
      reverse = flag (num_view r.reverse);
    }

pub record RangeLies (s : List ℕ) (r : Range) : Type 0 where
  pub start : Lies s r.start
  pub end : Lies s r.end

-- what is read of the headers, keyValues or ranges that t joins: each field as t has it
pub record HeaderIs (t : Tree) (h : Header) : Type 0 where
  pub cluster : signed_view h.cluster ≡ int_at Header-cluster_version t
  pub connection : signed_view h.connection ≡ int_at Header-connection_id t
  pub sequence : signed_view h.sequence ≡ int_at Header-sequence t
  pub kind : num_view h.kind ≡ int_at Header-message_type t

pub record KeyValueIs (s : List ℕ) (t : Tree) (k : KeyValue) : Type 0 where
  pub version : part_view s k.version ≡ raw_at KeyValue-new_version t
  pub key : part_view s k.key ≡ raw_at KeyValue-key t
  pub expected : part_view s k.expected ≡ raw_at KeyValue-db_version t
  pub tag : part_view s k.tag ≡ raw_at KeyValue-tag t
  pub algorithm : num_view k.algorithm ≡ int_at KeyValue-algorithm t
  pub metadata : num_view k.metadata ≡ int_at KeyValue-metadata_only t
  pub force : num_view k.force ≡ int_at KeyValue-force t
  pub lies : KeyValueLies s k

pub record RangeIs (s : List ℕ) (t : Tree) (r : Range) : Type 0 where
  pub start : part_view s r.start ≡ raw_at Range-start_key t
  pub end : part_view s r.end ≡ raw_at Range-end_key t
  pub first : num_view r.first ≡ int_at Range-start_key_inclusive t
  pub last : num_view r.last ≡ int_at Range-end_key_inclusive t
  pub limit : num_view r.limit ≡ int_at Range-max_returned t
  pub reverse : num_view r.reverse ≡ int_at Range-reverse t
  pub lies : RangeLies s r
