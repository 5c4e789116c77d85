-- Step 8 gives no fault, INVALID_REQUEST (16) or NO_SUCH_HMAC_ALGORITHM (15).
use Rattle.std.specs.Prelude.{ℕ, Bool, true, false, cond, ◌&&◌, List, leb, length}
use Rattle.fields_schema.specs.Tree.{is_some}
use Rattle.protocol.specs.StatusCode.{NO_SUCH_HMAC_ALGORITHM, INVALID_REQUEST}
use Rattle.protocol.specs.declared.Operation.{Operation}
use Rattle.protocol.specs.declared.Operation.TheVariants.{Noop, Get, GetVersion, GetNext, GetPrevious, GetKeyRange, Put, Delete, FlushAllData, Setup, GetLog, Security}
use Rattle.protocol.specs.Command.{Body}
use Rattle.base_definitions.specs.Lists.{is_empty}
use Rattle.protocol.specs.Judge.{present, key_value_good, change_good, range_good, types_good, security_good, algorithms_good, broken, fault}
use Rattle.protocol.specs.FaultCode.{FaultCode, nothing, no_algorithm, invalid}

broken-code : (t : Bool) → FaultCode (broken t)
broken-code true = nothing
broken-code false = invalid

abbrev secured : Bool → Bool → ℕ
secured t u = cond t (cond u 0 NO_SUCH_HMAC_ALGORITHM) INVALID_REQUEST

security-code : (t u : Bool) → FaultCode (secured t u)
security-code true true = nothing
security-code true false = no_algorithm
security-code false u = invalid

pub fault-code : (o : Operation) (b : Body) (v : List ℕ) → FaultCode (fault o b v)
fault-code Noop b v = broken-code (is_empty v)
fault-code FlushAllData b v = broken-code (is_empty v)
fault-code Get b v = broken-code (is_empty v && present key_value_good b.key_value)
fault-code GetVersion b v = broken-code (is_empty v && present key_value_good b.key_value)
fault-code GetNext b v = broken-code (is_empty v && present key_value_good b.key_value)
fault-code GetPrevious b v = broken-code (is_empty v && present key_value_good b.key_value)
fault-code Put b v = broken-code (leb (length v) 384 && present change_good b.key_value)
fault-code Delete b v = broken-code (is_empty v && present change_good b.key_value)
fault-code GetKeyRange b v = broken-code (is_empty v && present range_good b.range)
fault-code Setup b v = broken-code (is_empty v && is_some b.setup)
fault-code GetLog b v = broken-code (is_empty v && present types_good b.get_log)
fault-code Security b v = security-code (is_empty v && present security_good b.security) (present algorithms_good b.security)
