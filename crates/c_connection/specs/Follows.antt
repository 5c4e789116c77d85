-- What a call that answers does to the connection: it leaves it as it is, closes it, or accepts a sequence. It leaves the readings as they are.
-- And no refusal has the number 0.
use Rattle.std.specs.Prelude.{◌≡◌, ℕ, ◌<◌}
use Rattle.protocol.specs.State.{Connection, State, with_closed, with_sequence}
use Rattle.protocol.specs.Answer.{Outcome, refused, answered}

pub data Follows (c : Connection) : Connection → Type 0 where
  stays : Follows c c
  closed : Follows c (with_closed c)
  accepted : (q : ℕ) → Follows c (with_sequence c q)

abbrev pub After : State → State → Type 0
After s t = Follows s.connection t.connection × (t.readings ≡ s.readings)

-- a refusal has a number that is not 0; an answer leaves the connection as it is, closed, or with a sequence accepted, and the readings as they are
abbrev pub Leaves : State → Outcome State → Type 0
Leaves s (refused n) = 0 < n
Leaves s (answered bytes t taken) = After s t
