-- The state that lent bytes hold, and the state after an outcome.
use Rattle.std.specs.Prelude.{List, ℕ}
use Rattle.protocol.specs.State.{State, lent}
use Rattle.protocol.specs.Answer.{Outcome, refused, answered}
use Rattle.c_connection.specs.Layout.{connection_at}

-- the state that lent bytes hold
abbrev pub lent_state : List ℕ → List ℕ → List ℕ → List ℕ → State
lent_state store device readings connection = lent store device readings (connection_at connection)

-- the state after an outcome
abbrev pub state_after : State → Outcome State → State
state_after s (refused n) = s
state_after s (answered bytes t taken) = t
