-- What the code is given of a request, beside the definitions of `Judge`.
use Rattle.std.specs.Prelude.{◌≡◌, Bool, cond, ◌&&◌, List, ℕ, eqb}
use Rattle.std.proofs.Math.Option.{Option, none, some}
use Rattle.protocol.specs.State.{Connection, State, table}
use Rattle.protocol.specs.Command.{Header}
use Rattle.protocol.specs.StatusCode.{VERSION_FAILURE, HEADER_REQUIRED, INVALID_REQUEST}
use Rattle.protocol.specs.Judge.{above_last}

-- the test of step 6: the connection, connectionID and sequence of the request
abbrev pub in_order : Connection → ℕ → ℕ → Bool
in_order k c q = eqb c k.number && above_last q k.last

-- steps 5 and 6 of a header with its connectionID and sequence
abbrev pub header_right : State → Header → ℕ → ℕ → ℕ
header_right s h c q =
    cond (eqb h.cluster_version (table s).cluster_version) (cond (in_order s.connection c q) 0 INVALID_REQUEST) VERSION_FAILURE

abbrev pub header_there : State → Header → Option ℕ → Option ℕ → ℕ
header_there s h (some c) (some q) = header_right s h c q
header_there s h (some c) none = HEADER_REQUIRED
header_there s h none q = HEADER_REQUIRED

-- the code of the first of steps 4 to 6 that fails, else 0
abbrev pub header_fault : State → Option Header → ℕ
header_fault s none = HEADER_REQUIRED
header_fault s (some h) = header_there s h h.connection_id h.sequence

-- what is given of the connection, the device record and the header; one that is absent has neither connectionID nor sequence
abbrev pub id_in : Option Header → Option ℕ
id_in none = none
id_in (some h) = h.connection_id

abbrev pub sequence_in : Option Header → Option ℕ
sequence_in none = none
sequence_in (some h) = h.sequence

pub record Heard (s : State) (h : Option Header) (d : List ℕ) (v : ℕ) (c q : Option ℕ) (k : Connection) : Type 0 where
  pub device : s.device ≡ d
  pub version : (x : Header) → h ≡ some x → x.cluster_version ≡ v
  pub id : id_in h ≡ c
  pub sequence : sequence_in h ≡ q
  pub connection : s.connection ≡ k
