-- Steps 8 and 9 as a code, 0 where both are passed.
use Rattle.std.specs.Prelude.{Bool, cond, List, ℕ, eqb}
use Rattle.access_record.specs.Table.{Acl}
use Rattle.protocol.specs.declared.Choice.{Choice}
use Rattle.protocol.specs.Command.{Body}
use Rattle.protocol.specs.StatusCode.{NOT_AUTHORIZED}
use Rattle.protocol.specs.Judge.{fault, permitted}

-- a code and a permission
abbrev pub both : ℕ → Bool → ℕ
both m y = cond (eqb m 0) (cond y 0 NOT_AUTHORIZED) m

abbrev pub admission : Acl → Bool → Choice → Body → List ℕ → ℕ
admission a p x b v = both (fault x.operation b v) (permitted a p x.permission b)
