-- `judge` cut at step 7: steps 4 to 6 give a code, 0 where all hold.
use Rattle.std.specs.Prelude.{List, ℕ}
use Rattle.std.proofs.Math.Option.{Option, none, some}
use Rattle.access_record.specs.Table as access
use Rattle.protocol.specs.State.{State}
use Rattle.base_definitions.specs.Options.{or_else}
use Rattle.protocol.specs.Command.{Header, Body}
use Rattle.protocol.specs.declared.Choice.{Choice}
use Rattle.protocol.specs.Operation.{asked_by}
use Rattle.protocol.specs.Judge.{Result, step7, step8, step9, step10}

-- steps 8 to 10 of a request
abbrev pub served : State → access.Acl → Choice → Body → List ℕ → Result
served s a x b v = step8 s x.operation b v (step9 s a x.permission b (step10 s a x.operation b v))

-- steps 7 to 10, the sequence accepted
abbrev pub rest : State → access.Acl → Option ℕ → Body → List ℕ → Result
rest s a type b v = step7 s (asked_by type) (λ x. served s a x b v)

abbrev pub sequence_heard : Option Header → ℕ
sequence_heard none = 0
sequence_heard (some h) = or_else 0 h.sequence

abbrev pub type_in : Option Header → Option ℕ
type_in none = none
type_in (some h) = h.message_type
