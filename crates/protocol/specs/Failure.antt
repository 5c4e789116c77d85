-- The codes that failures say, and those of what may fail.
use Rattle.std.specs.Prelude.{ℕ, Result, Ok, Err}
use Rattle.protocol.specs.declared.status.Failure.{Failure}
use Rattle.protocol.specs.declared.status.Failure.TheVariants.{HmacFailure, NotAuthorized, VersionFailure, HeaderRequired, NotFound, VersionMismatch, NoSpace, NoSuchHmacAlgorithm, InvalidRequest, ConnectionTerminated}
use Rattle.protocol.specs.StatusCode.{SUCCESS, HMAC_FAILURE, NOT_AUTHORIZED, VERSION_FAILURE, HEADER_REQUIRED, NOT_FOUND, VERSION_MISMATCH, NO_SPACE, NO_SUCH_HMAC_ALGORITHM, INVALID_REQUEST, CONNECTION_TERMINATED}

abbrev pub number_of : Failure → ℕ
number_of HmacFailure = HMAC_FAILURE
number_of NotAuthorized = NOT_AUTHORIZED
number_of VersionFailure = VERSION_FAILURE
number_of HeaderRequired = HEADER_REQUIRED
number_of NotFound = NOT_FOUND
number_of VersionMismatch = VERSION_MISMATCH
number_of NoSpace = NO_SPACE
number_of NoSuchHmacAlgorithm = NO_SUCH_HMAC_ALGORITHM
number_of InvalidRequest = INVALID_REQUEST
number_of ConnectionTerminated = CONNECTION_TERMINATED

-- what a rule or an operation may end with
abbrev pub Done : Type 0
Done = Result (Unit {0}) Failure

-- the code of an operation that is done or fails
abbrev pub code_of : Done → ℕ
code_of (Ok u) = SUCCESS
code_of (Err f) = number_of f

-- the code of a rule that is kept, 0, or broken
abbrev pub fault_of : Done → ℕ
fault_of (Ok u) = 0
fault_of (Err f) = number_of f
