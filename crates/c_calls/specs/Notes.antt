-- What a response of the answering call leaves of the connection and the counts, and its number.
use Rattle.std.specs.Prelude.{List, [], ◌∷◌, ℕ, Ok, Err}
use Rattle.protocol_connection.specs.ConnectionOf.{connection_of}
use Rattle.c_connection.specs.Layout.{becomes}
use Rattle.device_response.specs.Called.{number_of, Response}

pub record Noted : Type 0 where
  pub number : ℕ
  pub connection : List ℕ
  pub counts : List ℕ

abbrev pub noted : ℕ → List ℕ → List ℕ → Noted
noted n connection counts = record { number = n; connection = connection; counts = counts }

abbrev pub notes : List ℕ → List ℕ → Response → Noted
notes connection counts (Err refusal) = noted (number_of refusal) connection counts
notes connection counts (Ok a) = noted 0 (becomes connection (connection_of a.connection)) (a.taken ∷ a.written ∷ [])
