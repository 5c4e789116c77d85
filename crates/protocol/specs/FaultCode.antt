-- The codes that step 8 gives: no fault, INVALID_REQUEST (16) or NO_SUCH_HMAC_ALGORITHM (15).
use Rattle.std.specs.Prelude.{ℕ}
use Rattle.protocol.specs.StatusCode.{NO_SUCH_HMAC_ALGORITHM, INVALID_REQUEST}

pub data FaultCode : ℕ → Type 0 where
  nothing : FaultCode 0
  no_algorithm : FaultCode NO_SUCH_HMAC_ALGORITHM
  invalid : FaultCode INVALID_REQUEST
