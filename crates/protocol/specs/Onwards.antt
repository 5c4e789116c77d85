-- Steps 7 to 10 of a command that passes those before: a name for laws.
use Rattle.std.specs.Prelude.{ℕ, List}
use Rattle.access_record.specs.Table as access
use Rattle.protocol.specs.Operation.{Asked}
use Rattle.protocol.specs.State.{State, accepted}
use Rattle.protocol.specs.Command.{Command}
use Rattle.protocol.specs.Judge.{Result, step7, step8, step9, step10}

-- with the sequence q accepted
abbrev pub onwards : State → access.Acl → Command → List ℕ → ℕ → Asked → Result
onwards s a c v q o =
    step7 (accepted s q) o (λ x.
    step8 (accepted s q) x.operation c.body v
    (step9 (accepted s q) a x.permission c.body (step10 (accepted s q) a x.operation c.body v)))
