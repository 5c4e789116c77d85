-- Document 01, "The order of judgement", steps 4 to 9, and "What each does", step 10: each step has the next as its last argument.
use Rattle.std.specs.Prelude.{Bool, true, false, not, cond, ◌&&◌, ◌||◌, List, [], reverse, ℕ, ◌*◌, eqb, leb, length, take, get_or, None, Some, Result as StdResult, Ok, Err}
use Rattle.std.proofs.Math.Option.{Option, none, some}
use Rattle.std.specs.Int.Signed.{lt_z}
use Rattle.fields_schema.specs.Tree.{guard, is_some, among}
use Rattle.access_record.specs.Table as access
use Rattle.base_integers.specs.Signed.{signed_of}
use Rattle.base_definitions.specs.Options.{or_else}
use Rattle.base_definitions.specs.Lists.{all, within, same_bytes, map_l, only, is_empty}
use Rattle.access_record.specs.Table.{named, mask_of, table_good}
use Rattle.access_record.specs.Record.{table_bytes, with_cluster_version}
use Rattle.access_permission.specs.Permissions.{READ, RANGE}
use Rattle.access_permission.specs.Permission.{permits, permits_any}
use Rattle.store_block.specs.Order.{cmp}
use Rattle.std.specs.Ordering.{is_eq, is_lt}
use Rattle.store_block.specs.Entry.{Entry, entry, no_entry}
use Rattle.store_layout.specs.Store.{blocks_in, entries_of}
use Rattle.store_layout.specs.Entries.{find_in, next_of, previous_of, put_answer, put_store, delete_store}
use Rattle.store_layout.specs.Entries.{PutAnswer}
use Rattle.store_layout.specs.declared.PutError.TheVariants.{Full, Unfit}
use Rattle.log_binary32.specs.Binary32.{portion}
use Rattle.log_readings.specs.Lent.{Sample, utilizations, temperatures, utilization_sample, temperature_sample}
use Rattle.protocol.specs.declared.Operation.{Operation}
use Rattle.protocol.specs.declared.Operation.TheVariants.{Noop, Get, GetVersion, GetNext, GetPrevious, GetKeyRange, Put, Delete, FlushAllData, Setup, GetLog, Security}
use Rattle.protocol.specs.declared.Permission.{Permission}
use Rattle.protocol.specs.declared.Permission.TheVariants.{Free, Key, Any}
use Rattle.protocol.specs.declared.Choice.{Choice}
use Rattle.protocol.specs.State.{State, table, entries, with_store, with_device, accepted}
use Rattle.protocol.specs.Command.{Header, KeyValue, Range, Scope, Acl, Body, Command}
use Rattle.protocol.specs.Operation.{Asked, asked_by}
use Rattle.protocol.specs.StatusCode.{SUCCESS, NOT_AUTHORIZED, VERSION_FAILURE, HEADER_REQUIRED, NOT_FOUND, VERSION_MISMATCH, NO_SPACE, NO_SUCH_HMAC_ALGORITHM, INVALID_REQUEST}
use Rattle.protocol.specs.LogType.{UTILIZATIONS, TEMPERATURES, CAPACITIES, CONFIGURATION, STATISTICS, MESSAGES, LIMITS, DEVICE}

-- document 02, CR 1: nominalCapacityInBytes, and the 32 bits of portionFull
pub record Capacity : Type 0 where
  pub nominal : ℕ
  pub portion : ℕ

-- what a log shows: utilizations and temperatures, each a name and the 32 bits of its value if that is sent; the capacity; and whether the limits
pub record Log : Type 0 where
  pub utilizations : List Sample
  pub temperatures : List Sample
  pub capacity : Option Capacity
  pub limits : Bool

-- "Body only on success": nothing, a keyValue with key, version, tag and algorithm, a range with its keys, or a log
pub data ReplyBody : Type 0 where
  bare : ReplyBody
  key_value : List ℕ → List ℕ → List ℕ → ℕ → ReplyBody
  range : List (List ℕ) → ReplyBody
  log : Log → ReplyBody

-- what comes of a request: the status code, the body and the value part of the reply, and what is lent afterwards
pub record Result : Type 0 where
  pub code : ℕ
  pub body : ReplyBody
  pub value : List ℕ
  pub state : State

abbrev pub fails : State → ℕ → Result
fails s code = record { code = code; body = bare; value = []; state = s }

-- SUCCESS (1)
abbrev pub succeeds : State → ReplyBody → List ℕ → Result
succeeds s b v = record { code = SUCCESS; body = b; value = v; state = s }

-- ---- step 4: "Header, connectionID and sequence present: else HEADER_REQUIRED (6)"

abbrev pub both_there : State → Header → Option ℕ → Option ℕ → (Header → ℕ → ℕ → Result) → Result
both_there s h (some c) (some q) next = next h c q
both_there s h (some c) none next = fails s HEADER_REQUIRED
both_there s h none q next = fails s HEADER_REQUIRED

abbrev pub step4 : State → Option Header → (Header → ℕ → ℕ → Result) → Result
step4 s none next = fails s HEADER_REQUIRED
step4 s (some h) next = both_there s h h.connection_id h.sequence next

-- ---- step 5: "clusterVersion equals the device's: else VERSION_FAILURE (4)"

abbrev pub step5 : State → Header → Result → Result
step5 s h next = cond (eqb h.cluster_version (table s).cluster_version) next (fails s VERSION_FAILURE)

-- ---- step 6: "connectionID equals the connection's, and sequence is above the last accepted: else 16"

-- the order of the numbers that the words stand for: "Integers are 64-bit two's complement"
unfoldable pub above : ℕ → ℕ → Bool
above a b = lt_z (signed_of b) (signed_of a)

abbrev pub above_last : ℕ → Option ℕ → Bool
above_last q none = true
above_last q (some l) = above q l

abbrev pub step6 : State → ℕ → ℕ → Result → Result
step6 s c q next = cond (eqb c s.connection.number && above_last q s.connection.last) next (fails s INVALID_REQUEST)

-- ---- step 7: "messageType is a request built here: else 16"

abbrev pub step7 : State → Asked → (Choice → Result) → Result
step7 s (Some x) next = next x
step7 s None next = fails s INVALID_REQUEST

-- ---- step 8: "Its body part is present (NOOP and FLUSHALLDATA need none) and well formed: else 16"

-- a part that must be there, and its rule
abbrev pub present : {A : Type 0} → (A → Bool) → Option A → Bool
present f none = false
present f (some a) = f a

-- "Key 1 to 64, versions at most 16, tag at most 32"
unfoldable pub key_value_good : KeyValue → Bool
key_value_good k =
    within 1 64 (length k.key) && (leb (length k.new_version) 16 && (leb (length k.db_version) 16 && leb (length k.tag) 32))

-- "metadataOnly not true on PUT or DELETE"
abbrev pub change_good : KeyValue → Bool
change_good k = key_value_good k && not k.metadata_only

-- "Range keys present, 0 to 64; maxReturned 0 to 32": a negative number is a word above 32
unfoldable pub range_good : Range → Bool
range_good r =
    present (λ k. leb (length k) 64) r.start_key && (present (λ k. leb (length k) 64) r.end_key && leb r.max_returned 32)

-- document 02, CR 1: "no type, or a 3, 4 or 5, is INVALID_REQUEST at step 8"
unfoldable pub types_good : List ℕ → Bool
types_good ts = not (is_empty ts) && not (among CONFIGURATION ts || (among STATISTICS ts || among MESSAGES ts))

-- the table that a SECURITY asks for
abbrev pub wanted_scope : Scope → access.Scope
wanted_scope s = record { offset = s.offset; value = s.value; permissions = mask_of s.permissions; tls_required = s.tls_required }

abbrev pub wanted_acl : Acl → access.Acl
wanted_acl a = record { identity = or_else 0 a.identity; key = a.key; scopes = map_l wanted_scope a.scopes }

abbrev pub wanted : ℕ → List Acl → access.Table
wanted version acls = record { cluster_version = version; acls = map_l wanted_acl acls }

-- "each with 1 to 9 permissions among 0-5, 7, 8, 9"
unfoldable pub permissions_good : Scope → Bool
permissions_good s = within 1 9 (length s.permissions) && all named s.permissions

-- "identities present", and the permissions of each scope
unfoldable pub acl_read : Acl → Bool
acl_read a = is_some a.identity && all permissions_good a.scopes

-- "ACL rules": these, and every rule that the table of a device record obeys
unfoldable pub security_good : List Acl → Bool
security_good acls = all acl_read acls && table_good (wanted 0 acls)

-- "Then an hmacAlgorithm that is present and not 1 gives NO_SUCH_HMAC_ALGORITHM (15)"
unfoldable pub algorithms_good : List Acl → Bool
algorithms_good acls = all (λ a. eqb a.hmac_algorithm 1) acls

-- the code where a rule is broken, else 0
abbrev pub broken : Bool → ℕ
broken good = cond good 0 INVALID_REQUEST

-- what is wrong with the part, in this order; "value part at most 384 on PUT and empty elsewhere"
abbrev pub fault : Operation → Body → List ℕ → ℕ
fault Noop b v = broken (is_empty v)
fault FlushAllData b v = broken (is_empty v)
fault Get b v = broken (is_empty v && present key_value_good b.key_value)
fault GetVersion b v = broken (is_empty v && present key_value_good b.key_value)
fault GetNext b v = broken (is_empty v && present key_value_good b.key_value)
fault GetPrevious b v = broken (is_empty v && present key_value_good b.key_value)
fault Put b v = broken (leb (length v) 384 && present change_good b.key_value)
fault Delete b v = broken (is_empty v && present change_good b.key_value)
fault GetKeyRange b v = broken (is_empty v && present range_good b.range)
fault Setup b v = broken (is_empty v && is_some b.setup)
fault GetLog b v = broken (is_empty v && present types_good b.get_log)
fault Security b v = cond (is_empty v && present security_good b.security) (cond (present algorithms_good b.security) 0 NO_SUCH_HMAC_ALGORITHM) INVALID_REQUEST

abbrev pub step8 : State → Operation → Body → List ℕ → Result → Result
step8 s o b v next = cond (eqb (fault o b v) 0) next (fails s (fault o b v))

-- ---- step 9: "Permission: else NOT_AUTHORIZED (3)", by "Who may"

abbrev pub no_key_value : KeyValue
no_key_value = record { new_version = []; key = []; db_version = []; tag = []; algorithm = 0; metadata_only = false; force = false }

abbrev pub no_range : Range
no_range = record { start_key = none; end_key = none; start_inclusive = false; end_inclusive = false; max_returned = 0; reverse = false }

-- the parts of a body that is well formed for the operation
abbrev pub key_value_in : Body → KeyValue
key_value_in b = or_else no_key_value b.key_value

abbrev pub range_in : Body → Range
range_in b = or_else no_range b.range

-- by which key a permission is judged; "SETUP and SECURITY fit any key". Document 02, CR 2: "NOT_AUTHORIZED is given for these three exactly
-- when the identity has no scope with the permission that this connection may use"
abbrev pub permitted : access.Acl → Bool → Permission → Body → Bool
permitted a protected Free b = true
permitted a protected (Key p) b = permits a protected p (key_value_in b).key
permitted a protected (Any p) b = permits_any a protected p

abbrev pub step9 : State → access.Acl → Permission → Body → Result → Result
step9 s a p b next = cond (permitted a s.connection.protected p b) next (fails s NOT_AUTHORIZED)

-- ---- step 10: "The operation", by "What each does"

-- the entry under a key
abbrev pub entry_at : State → StdResult ℕ ℕ → Option Entry
entry_at s (Ok i) = some (get_or (entries s) i no_entry)
entry_at s (Err i) = none

abbrev pub entry_of : State → List ℕ → Option Entry
entry_of s k = entry_at s (find_in k (entries s))

-- document 02, CR 2: the entries whose keys "a usable READ scope fits", or a usable RANGE scope: one scope of the ACL holds the permission,
-- allows the connection and fits the key
unfoldable pub visible : access.Acl → Bool → ℕ → List Entry → List Entry
visible a protected permission es = only (λ e. permits a protected permission e.key) es

abbrev pub visible_in : State → access.Acl → ℕ → List Entry
visible_in s a permission = visible a s.connection.protected permission (entries s)

-- "keyValue 3, 4, 5, 6, …, and the value part unless metadataOnly"
abbrev pub shown : State → Bool → Option Entry → Result
shown s metadata_only none = fails s NOT_FOUND
shown s metadata_only (some e) =
    succeeds s (key_value e.key e.version e.tag e.algorithm) (cond metadata_only [] e.value)

-- "GETVERSION keyValue 4"
abbrev pub version_shown : State → Option Entry → Result
version_shown s none = fails s NOT_FOUND
version_shown s (some e) = succeeds s (key_value [] e.version [] 0) []

-- "dbVersion must equal the stored version, or be empty for a new key"; "without force"
abbrev pub version_of : Option Entry → List ℕ
version_of none = []
version_of (some e) = e.version

abbrev pub version_right : KeyValue → Option Entry → Bool
version_right k o = k.force || same_bytes k.db_version (version_of o)

-- "Stores newVersion, tag, algorithm, value"
abbrev pub new_entry : KeyValue → List ℕ → Entry
new_entry k v = entry k.key k.new_version k.tag v k.algorithm

-- "PUT and DELETE an empty keyValue"
abbrev pub changed : State → List ℕ → Result
changed s l = succeeds (with_store s l) (key_value [] [] [] 0) []

-- SUCCESS where the store takes the entry; "with no blank block: NO_SPACE (14), and only then". An entry that fits no block would be
-- INVALID_REQUEST: `fits-or-full` of `PutLaws` shows that no command with one passes steps 3 and 8
abbrev pub put_by : State → Entry → PutAnswer → Result
put_by s e (Ok tt) = changed s (put_store s.store e)
put_by s e (Err Full) = fails s NO_SPACE
put_by s e (Err Unfit) = fails s INVALID_REQUEST

-- "else VERSION_MISMATCH (8). A new key that passes this, with no blank block"
abbrev pub put : State → KeyValue → List ℕ → Result
put s k v =
    cond (version_right k (entry_of s k.key))
    (put_by s (new_entry k v) (put_answer s.store (new_entry k v)))
    (fails s VERSION_MISMATCH)

-- "missing key is NOT_FOUND (7), or SUCCESS with force; version as for PUT"
abbrev pub delete_by : State → KeyValue → Option Entry → Result
delete_by s k none = cond k.force (changed s s.store) (fails s NOT_FOUND)
delete_by s k (some e) = cond (version_right k (some e)) (changed s (delete_store s.store k.key)) (fails s VERSION_MISMATCH)

-- "keys above start (or equal, if inclusive) and below end (likewise)"
unfoldable pub in_range : Range → List ℕ → Bool
in_range r k =
    (is_lt (cmp (or_else [] r.start_key) k) || (r.start_inclusive && is_eq (cmp (or_else [] r.start_key) k))) &&
    (is_lt (cmp k (or_else [] r.end_key)) || (r.end_inclusive && is_eq (cmp k (or_else [] r.end_key))))

unfoldable pub keys_in : Range → List Entry → List (List ℕ)
keys_in r es = map_l (λ (e : Entry). e.key) (only (λ (e : Entry). in_range r e.key) es)

-- "ascending, or descending with reverse, the first maxReturned"
unfoldable pub keys_of : Range → List Entry → List (List ℕ)
keys_of r es = take r.max_returned (cond r.reverse (reverse (keys_in r es)) (keys_in r es))

-- "SETUP sets the cluster version if given"
abbrev pub set_up : State → Option ℕ → Result
set_up s none = succeeds s bare []
set_up s (some v) = succeeds (with_device s (with_cluster_version s.device v)) bare []

-- document 02, CR 1: "The capacity is 512 bytes a block. portionFull is used blocks divided by all blocks, rounded once"
abbrev pub capacity_of : List ℕ → Capacity
capacity_of store = record { nominal = 512 * blocks_in store; portion = portion (length (entries_of store)) (blocks_in store) }

-- the log of a store and readings, with or without each of its parts; "readings in lent order"
unfoldable pub log_with : List ℕ → List ℕ → Bool → Bool → Bool → Bool → Log
log_with store readings utilized heated filled limited =
    record {
      utilizations = cond utilized (map_l utilization_sample (utilizations readings)) [];
      temperatures = cond heated (map_l temperature_sample (temperatures readings)) [];
      capacity = guard filled (capacity_of store);
      limits = limited;
    }

-- "gives each asked type once": UTILIZATIONS 0, TEMPERATURES 1, CAPACITIES 2, LIMITS 6
abbrev pub log_of : State → List ℕ → Log
log_of s types = log_with s.store s.readings (among UTILIZATIONS types) (among TEMPERATURES types) (among CAPACITIES types) (among LIMITS types)

-- "else a 7 is NOT_FOUND at step 10"
abbrev pub logged : State → List ℕ → Result
logged s types = cond (among DEVICE types) (fails s NOT_FOUND) (succeeds s (log (log_of s types)) [])

-- "SECURITY replaces the whole table"; the cluster version stays
abbrev pub secure : State → List Acl → Result
secure s acls = succeeds (with_device s (table_bytes (wanted (table s).cluster_version acls))) bare []

-- for the ACL of the identity. Document 02, CR 2: "the nearest key on that side that a usable READ scope fits, NOT_FOUND if none"; "lists only
-- keys that a usable RANGE scope fits, and maxReturned counts after that"
abbrev pub step10 : State → access.Acl → Operation → Body → List ℕ → Result
step10 s a Noop b v = succeeds s bare []
step10 s a FlushAllData b v = succeeds s bare []
step10 s a Get b v = shown s (key_value_in b).metadata_only (entry_of s (key_value_in b).key)
step10 s a GetVersion b v = version_shown s (entry_of s (key_value_in b).key)
step10 s a GetNext b v = shown s (key_value_in b).metadata_only (next_of (key_value_in b).key (visible_in s a READ))
step10 s a GetPrevious b v = shown s (key_value_in b).metadata_only (previous_of (key_value_in b).key (visible_in s a READ))
step10 s a Put b v = put s (key_value_in b) v
step10 s a Delete b v = delete_by s (key_value_in b) (entry_of s (key_value_in b).key)
step10 s a GetKeyRange b v = succeeds s (range (keys_of (range_in b) (visible_in s a RANGE))) []
step10 s a Setup b v = set_up s (or_else none b.setup)
step10 s a GetLog b v = logged s (or_else [] b.get_log)
step10 s a Security b v = secure s (or_else [] b.security)

-- ---- steps 4 to 10, for the ACL of the identity, the command and the value part

unfoldable pub judge : State → access.Acl → Command → List ℕ → Result
judge s a c v =
    step4 s c.header (λ h connection q.
    step5 s h
    (step6 s connection q
    (step7 (accepted s q) (asked_by h.message_type) (λ x.
    step8 (accepted s q) x.operation c.body v
    (step9 (accepted s q) a x.permission c.body
    (step10 (accepted s q) a x.operation c.body v))))))
