-- What a command says, by the names of document 01's list; getLog by document 02, CR 1. "Absent bytes are empty, flags false, clusterVersion and offset 0."
use Rattle.std.specs.Prelude.{Bool, false, not, List, [], ℕ, eqb}
use Rattle.std.proofs.Math.Option.{Option, none, some}
use Rattle.base_definitions.specs.Options.{or_else}
use Rattle.base_definitions.specs.Lists.{map_l}
use Rattle.fields_schema.specs.FieldNumbers.{Command-header, Command-body, Header-cluster_version, Header-connection_id, Header-sequence, Header-message_type}
use Rattle.fields_schema.specs.FieldNumbers.{Body-key_value, Body-range, Body-setup, Body-get_log, Body-security, KeyValue-new_version, KeyValue-key}
use Rattle.fields_schema.specs.FieldNumbers.{KeyValue-db_version, KeyValue-tag, KeyValue-algorithm, KeyValue-metadata_only, KeyValue-force, Range-start_key}
use Rattle.fields_schema.specs.FieldNumbers.{Range-end_key, Range-start_key_inclusive, Range-end_key_inclusive, Range-max_returned, Range-reverse}
use Rattle.fields_schema.specs.FieldNumbers.{Setup-new_cluster_version, GetLog-types, Security-acl, ACL-identity, ACL-key, ACL-hmac_algorithm, ACL-scope}
use Rattle.fields_schema.specs.FieldNumbers.{Scope-offset, Scope-value, Scope-permission, Scope-tls_required}
use Rattle.fields_schema.specs.Tree.{Tree, map_o, int_at, raw_at, sub_at, ints_at, subs_at}

-- a flag
abbrev pub flag : Option ℕ → Bool
flag none = false
flag (some v) = not (eqb v 0)

pub record Header : Type 0 where
  pub cluster_version : ℕ
  pub connection_id : Option ℕ
  pub sequence : Option ℕ
  pub message_type : Option ℕ

pub record KeyValue : Type 0 where
  pub new_version : List ℕ
  pub key : List ℕ
  pub db_version : List ℕ
  pub tag : List ℕ
  pub algorithm : ℕ
  pub metadata_only : Bool
  pub force : Bool

-- "maxReturned …, absent means 32"
pub record Range : Type 0 where
  pub start_key : Option (List ℕ)
  pub end_key : Option (List ℕ)
  pub start_inclusive : Bool
  pub end_inclusive : Bool
  pub max_returned : ℕ
  pub reverse : Bool

pub record Scope : Type 0 where
  pub offset : ℕ
  pub value : List ℕ
  pub permissions : List ℕ
  pub tls_required : Bool

-- "an absent [hmacAlgorithm] is 1, the default in document 003"
pub record Acl : Type 0 where
  pub identity : Option ℕ
  pub key : List ℕ
  pub hmac_algorithm : ℕ
  pub scopes : List Scope

pub record Body : Type 0 where
  pub key_value : Option KeyValue
  pub range : Option Range
  -- of a setup the newClusterVersion, if it has one
  pub setup : Option (Option ℕ)
  -- of a getLog the types
  pub get_log : Option (List ℕ)
  pub security : Option (List Acl)

pub record Command : Type 0 where
  pub header : Option Header
  pub body : Body

abbrev pub header_of : Tree → Header
header_of t =
    record {
      cluster_version = or_else 0 (int_at Header-cluster_version t);
      connection_id = int_at Header-connection_id t;
      sequence = int_at Header-sequence t;
      message_type = int_at Header-message_type t;
    }

abbrev pub key_value_of : Tree → KeyValue
key_value_of t =
    record {
      new_version = or_else [] (raw_at KeyValue-new_version t);
      key = or_else [] (raw_at KeyValue-key t);
      db_version = or_else [] (raw_at KeyValue-db_version t);
      tag = or_else [] (raw_at KeyValue-tag t);
      algorithm = or_else 0 (int_at KeyValue-algorithm t);
      metadata_only = flag (int_at KeyValue-metadata_only t);
      force = flag (int_at KeyValue-force t);
    }

abbrev pub range_of : Tree → Range
range_of t =
    record {
      start_key = raw_at Range-start_key t;
      end_key = raw_at Range-end_key t;
      start_inclusive = flag (int_at Range-start_key_inclusive t);
      end_inclusive = flag (int_at Range-end_key_inclusive t);
      max_returned = or_else 32 (int_at Range-max_returned t);
      reverse = flag (int_at Range-reverse t);
    }

abbrev pub setup_of : Tree → Option ℕ
setup_of t = int_at Setup-new_cluster_version t

abbrev pub types_of : Tree → List ℕ
types_of t = ints_at GetLog-types t

abbrev pub scope_of : Tree → Scope
scope_of t =
    record {
      offset = or_else 0 (int_at Scope-offset t);
      value = or_else [] (raw_at Scope-value t);
      permissions = ints_at Scope-permission t;
      tls_required = flag (int_at Scope-tls_required t);
    }

abbrev pub acl_of : Tree → Acl
acl_of t =
    record {
      identity = int_at ACL-identity t;
      key = or_else [] (raw_at ACL-key t);
      hmac_algorithm = or_else 1 (int_at ACL-hmac_algorithm t);
      scopes = map_l scope_of (subs_at ACL-scope t);
    }

abbrev pub security_of : Tree → List Acl
security_of t = map_l acl_of (subs_at Security-acl t)

abbrev pub no_body : Body
no_body = record { key_value = none; range = none; setup = none; get_log = none; security = none }

abbrev pub body_of : Tree → Body
body_of t =
    record {
      key_value = map_o key_value_of (sub_at Body-key_value t);
      range = map_o range_of (sub_at Body-range t);
      setup = map_o setup_of (sub_at Body-setup t);
      get_log = map_o types_of (sub_at Body-get_log t);
      security = map_o security_of (sub_at Body-security t);
    }

abbrev pub command_of : Tree → Command
command_of t = record { header = map_o header_of (sub_at Command-header t); body = or_else no_body (map_o body_of (sub_at Command-body t)) }
