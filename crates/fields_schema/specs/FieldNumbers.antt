-- Document 003's numbers of the fields that document 01 lists ("Frame and fields"), and of GetLog those of document 02, CR 1.
-- By message, in document 003's names; tests/house holds each number to tests/kinetic.proto.
use Rattle.std.specs.Prelude.{ℕ}

-- Message
abbrev pub Message-auth_type : ℕ
Message-auth_type = 4

abbrev pub Message-hmac_auth : ℕ
Message-hmac_auth = 5

abbrev pub Message-pin_auth : ℕ
Message-pin_auth = 6

abbrev pub Message-command_bytes : ℕ
Message-command_bytes = 7

-- HMACauth
abbrev pub HMACauth-identity : ℕ
HMACauth-identity = 1

abbrev pub HMACauth-hmac : ℕ
HMACauth-hmac = 2

-- Command
abbrev pub Command-header : ℕ
Command-header = 1

abbrev pub Command-body : ℕ
Command-body = 2

abbrev pub Command-status : ℕ
Command-status = 3

-- Header
abbrev pub Header-cluster_version : ℕ
Header-cluster_version = 1

abbrev pub Header-connection_id : ℕ
Header-connection_id = 3

abbrev pub Header-sequence : ℕ
Header-sequence = 4

abbrev pub Header-ack_sequence : ℕ
Header-ack_sequence = 6

abbrev pub Header-message_type : ℕ
Header-message_type = 7

abbrev pub Header-timeout : ℕ
Header-timeout = 9

abbrev pub Header-early_exit : ℕ
Header-early_exit = 10

abbrev pub Header-priority : ℕ
Header-priority = 12

abbrev pub Header-time_quanta : ℕ
Header-time_quanta = 13

abbrev pub Header-batch_id : ℕ
Header-batch_id = 14

-- Body
abbrev pub Body-key_value : ℕ
Body-key_value = 1

abbrev pub Body-range : ℕ
Body-range = 2

abbrev pub Body-setup : ℕ
Body-setup = 3

abbrev pub Body-p2p_operation : ℕ
Body-p2p_operation = 4

abbrev pub Body-get_log : ℕ
Body-get_log = 6

abbrev pub Body-security : ℕ
Body-security = 7

abbrev pub Body-pin_op : ℕ
Body-pin_op = 8

abbrev pub Body-batch : ℕ
Body-batch = 9

abbrev pub Body-power : ℕ
Body-power = 10

-- KeyValue
abbrev pub KeyValue-new_version : ℕ
KeyValue-new_version = 2

abbrev pub KeyValue-key : ℕ
KeyValue-key = 3

abbrev pub KeyValue-db_version : ℕ
KeyValue-db_version = 4

abbrev pub KeyValue-tag : ℕ
KeyValue-tag = 5

abbrev pub KeyValue-algorithm : ℕ
KeyValue-algorithm = 6

abbrev pub KeyValue-metadata_only : ℕ
KeyValue-metadata_only = 7

abbrev pub KeyValue-force : ℕ
KeyValue-force = 8

abbrev pub KeyValue-synchronization : ℕ
KeyValue-synchronization = 9

-- Range
abbrev pub Range-start_key : ℕ
Range-start_key = 1

abbrev pub Range-end_key : ℕ
Range-end_key = 2

abbrev pub Range-start_key_inclusive : ℕ
Range-start_key_inclusive = 3

abbrev pub Range-end_key_inclusive : ℕ
Range-end_key_inclusive = 4

abbrev pub Range-max_returned : ℕ
Range-max_returned = 5

abbrev pub Range-reverse : ℕ
Range-reverse = 6

abbrev pub Range-keys : ℕ
Range-keys = 8

-- Setup
abbrev pub Setup-new_cluster_version : ℕ
Setup-new_cluster_version = 1

abbrev pub Setup-firmware_download : ℕ
Setup-firmware_download = 5

-- GetLog
abbrev pub GetLog-types : ℕ
GetLog-types = 1

abbrev pub GetLog-utilizations : ℕ
GetLog-utilizations = 2

abbrev pub GetLog-temperatures : ℕ
GetLog-temperatures = 3

abbrev pub GetLog-capacity : ℕ
GetLog-capacity = 4

abbrev pub GetLog-limits : ℕ
GetLog-limits = 8

-- Utilization
abbrev pub Utilization-name : ℕ
Utilization-name = 1

abbrev pub Utilization-value : ℕ
Utilization-value = 2

-- Temperature
abbrev pub Temperature-name : ℕ
Temperature-name = 1

abbrev pub Temperature-current : ℕ
Temperature-current = 2

-- Capacity
abbrev pub Capacity-nominal_capacity_in_bytes : ℕ
Capacity-nominal_capacity_in_bytes = 4

abbrev pub Capacity-portion_full : ℕ
Capacity-portion_full = 5

-- Limits
abbrev pub Limits-max_key_size : ℕ
Limits-max_key_size = 1

abbrev pub Limits-max_value_size : ℕ
Limits-max_value_size = 2

abbrev pub Limits-max_version_size : ℕ
Limits-max_version_size = 3

abbrev pub Limits-max_tag_size : ℕ
Limits-max_tag_size = 4

abbrev pub Limits-max_message_size : ℕ
Limits-max_message_size = 8

abbrev pub Limits-max_key_range_count : ℕ
Limits-max_key_range_count = 9

abbrev pub Limits-max_identity_count : ℕ
Limits-max_identity_count = 10

-- Security
abbrev pub Security-acl : ℕ
Security-acl = 2

-- ACL
abbrev pub ACL-identity : ℕ
ACL-identity = 1

abbrev pub ACL-key : ℕ
ACL-key = 2

abbrev pub ACL-hmac_algorithm : ℕ
ACL-hmac_algorithm = 3

abbrev pub ACL-scope : ℕ
ACL-scope = 4

-- Scope
abbrev pub Scope-offset : ℕ
Scope-offset = 1

abbrev pub Scope-value : ℕ
Scope-value = 2

abbrev pub Scope-permission : ℕ
Scope-permission = 3

abbrev pub Scope-tls_required : ℕ
Scope-tls_required = 4

-- Status
abbrev pub Status-code : ℕ
Status-code = 1
