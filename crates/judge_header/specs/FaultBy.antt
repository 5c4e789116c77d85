-- The code of steps 4 to 6 over what the code is given.
use Rattle.std.specs.Prelude.{cond, List, ℕ, eqb}
use Rattle.std.proofs.Math.Option.{Option, none, some}
use Rattle.access_record.specs.Record.{table_of}
use Rattle.protocol.specs.State.{Connection}
use Rattle.protocol.specs.StatusCode.{VERSION_FAILURE, HEADER_REQUIRED, INVALID_REQUEST}
use Rattle.judge_header.specs.HeaderFault.{in_order}

-- the code by what the code is given
abbrev pub fault_by : List ℕ → ℕ → Option ℕ → Option ℕ → Connection → ℕ
fault_by d v (some c) (some q) k = cond (eqb v (table_of d).cluster_version) (cond (in_order k c q) 0 INVALID_REQUEST) VERSION_FAILURE
fault_by d v (some c) none k = HEADER_REQUIRED
fault_by d v none q k = HEADER_REQUIRED
