-- What the code is given of a body, beside the definitions of `Judge`.
use Rattle.std.specs.Prelude.{cond, ◌≡◌, List, ℕ, length}
use Rattle.std.proofs.Math.Option.{Option}
use Rattle.fields_schema.specs.Tree.{map_o, is_some}
use Rattle.protocol.specs.StatusCode.{NO_SUCH_HMAC_ALGORITHM, INVALID_REQUEST}
use Rattle.protocol.specs.declared.Operation.{Operation}
use Rattle.protocol.specs.declared.Operation.TheVariants.{Noop, Get, GetVersion, GetNext, GetPrevious, GetKeyRange, Put, Delete, FlushAllData, Setup, GetLog, Security}
use Rattle.protocol.specs.Command.{KeyValue, Range, Acl, Body}
use Rattle.protocol.specs.Judge.{broken, present, key_value_good, change_good, range_good, types_good, security_good, algorithms_good}

-- "value part at most 384 on PUT and empty elsewhere"
abbrev pub most_value : Operation → ℕ
most_value Noop = 0
most_value FlushAllData = 0
most_value Get = 0
most_value GetVersion = 0
most_value GetNext = 0
most_value GetPrevious = 0
most_value Put = 384
most_value Delete = 0
most_value GetKeyRange = 0
most_value Setup = 0
most_value GetLog = 0
most_value Security = 0

-- the code of the part that the operation uses
abbrev pub part_fault : Operation → ℕ → ℕ → ℕ → ℕ → ℕ → ℕ → ℕ
part_fault Noop pair change range setup log security = 0
part_fault FlushAllData pair change range setup log security = 0
part_fault Get pair change range setup log security = pair
part_fault GetVersion pair change range setup log security = pair
part_fault GetNext pair change range setup log security = pair
part_fault GetPrevious pair change range setup log security = pair
part_fault Put pair change range setup log security = change
part_fault Delete pair change range setup log security = change
part_fault GetKeyRange pair change range setup log security = range
part_fault Setup pair change range setup log security = setup
part_fault GetLog pair change range setup log security = log
part_fault Security pair change range setup log security = security

-- the code of a security part: its rules, "Then an hmacAlgorithm that is present and not 1"
abbrev pub security_fault : Option (List Acl) → ℕ
security_fault o = cond (present security_good o) (cond (present algorithms_good o) 0 NO_SUCH_HMAC_ALGORITHM) INVALID_REQUEST

-- the length of the value part, and the code of each part; that of a getLog or a security part only where it is used
pub record Checked (o : Operation) (b : Body) (v : List ℕ) (n p c r s l x : ℕ) : Type 0 where
  pub value : length v ≡ n
  pub pair : broken (present key_value_good b.key_value) ≡ p
  pub change : broken (present change_good b.key_value) ≡ c
  pub range : broken (present range_good b.range) ≡ r
  pub setup : broken (is_some b.setup) ≡ s
  pub log : o ≡ GetLog → broken (present types_good b.get_log) ≡ l
  pub security : o ≡ Security → security_fault b.security ≡ x

-- the lengths of a keyValue's parts
pub record Lengths (k : KeyValue) (a b c d : ℕ) : Type 0 where
  pub key : length k.key ≡ a
  pub new_version : length k.new_version ≡ b
  pub db_version : length k.db_version ≡ c
  pub tag : length k.tag ≡ d

-- the lengths of a range's keys, where they are there, and its maxReturned
pub record RangeLengths (r : Range) (a b : Option ℕ) (n : ℕ) : Type 0 where
  pub start : map_o length r.start_key ≡ a
  pub end : map_o length r.end_key ≡ b
  pub most : r.max_returned ≡ n
