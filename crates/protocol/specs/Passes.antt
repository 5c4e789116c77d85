-- A command that passes steps 4 to 6.
use Rattle.std.specs.Prelude.{ℕ, ◌≡◌, true}
use Rattle.std.proofs.Math.Option.{some}
use Rattle.protocol.specs.State.{State, table}
use Rattle.protocol.specs.Command.{Header, Command}
use Rattle.protocol.specs.Judge.{above_last}

-- steps 4 to 6 pass, with the sequence q
pub record Passes (s : State) (c : Command) (q : ℕ) : Type 0 where
  pub header : Header
  pub there : c.header ≡ some header
  pub connection : header.connection_id ≡ some s.connection.number
  pub sequence : header.sequence ≡ some q
  pub version : header.cluster_version ≡ (table s).cluster_version
  pub later : above_last q s.connection.last ≡ true
