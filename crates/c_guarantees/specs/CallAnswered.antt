-- An answering call as its host in C finds it: number 0.
use Rattle.std.specs.Prelude.{ℕ, ◌≡◌, List, [], ◌∷◌}
use Rattle.protocol.specs.State.{State}
use Rattle.device_guarantees.specs.HostCall.{HostAnswered}

-- the counts are what was taken of the input and what was written of the buffer
pub record CallAnswered (s : State) (input out out' counts' : List ℕ) (s' : State) : Type 0 where
  pub taken : ℕ
  pub written : ℕ
  pub counted : counts' ≡ taken ∷ written ∷ []
  pub host : HostAnswered s input out written taken out' s'
