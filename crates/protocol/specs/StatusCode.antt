-- Document 003, Status.StatusCode: the codes that document 01 gives.
use Rattle.std.specs.Prelude.{ℕ}

abbrev pub SUCCESS : ℕ
SUCCESS = 1

abbrev pub HMAC_FAILURE : ℕ
HMAC_FAILURE = 2

abbrev pub NOT_AUTHORIZED : ℕ
NOT_AUTHORIZED = 3

abbrev pub VERSION_FAILURE : ℕ
VERSION_FAILURE = 4

abbrev pub HEADER_REQUIRED : ℕ
HEADER_REQUIRED = 6

abbrev pub NOT_FOUND : ℕ
NOT_FOUND = 7

abbrev pub VERSION_MISMATCH : ℕ
VERSION_MISMATCH = 8

abbrev pub NO_SPACE : ℕ
NO_SPACE = 14

abbrev pub NO_SUCH_HMAC_ALGORITHM : ℕ
NO_SUCH_HMAC_ALGORITHM = 15

abbrev pub INVALID_REQUEST : ℕ
INVALID_REQUEST = 16

abbrev pub CONNECTION_TERMINATED : ℕ
CONNECTION_TERMINATED = 20
