-- What the answering call for C leaves: its number, and every lent byte afterwards.
use Rattle.std.specs.Prelude.{List, [], ◌∷◌, ◌++◌, ℕ, length, drop}
use Rattle.protocol.specs.State.{State, lent}
use Rattle.protocol.specs.Answer.{Outcome, refused, answered}
use Rattle.protocol.specs.Box.{answers}
use Rattle.c_connection.specs.Layout.{connection_at, becomes}

-- 0 answered, or a refusal by its number

pub record Left : Type 0 where
  pub number : ℕ
  pub store : List ℕ
  pub device : List ℕ
  pub connection : List ℕ
  pub out : List ℕ
  pub counts : List ℕ

abbrev pub left : ℕ → List ℕ → List ℕ → List ℕ → List ℕ → List ℕ → Left
left n store device connection out counts = record { number = n; store = store; device = device; connection = connection; out = out; counts = counts }

-- a refusal writes no lent byte at all; else the reply stands in the first bytes of `out`, and `counts` holds what was taken and written
abbrev pub leaves : List ℕ → List ℕ → List ℕ → List ℕ → List ℕ → Outcome State → Left
leaves store device connection out counts (refused n) = left n store device connection out counts
leaves store device connection out counts (answered bytes s taken) =
    left 0 s.store s.device (becomes connection s.connection) (bytes ++ drop (length bytes) out) (taken ∷ length bytes ∷ [])

unfoldable pub answer_call : List ℕ → List ℕ → List ℕ → List ℕ → List ℕ → List ℕ → List ℕ → Left
answer_call store device connection readings input out counts =
    leaves store device connection out counts (answers (lent store device readings (connection_at connection)) (length out) input)
