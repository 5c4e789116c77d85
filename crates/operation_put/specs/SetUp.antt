-- What SETUP leaves, beside the definitions of `Judge`.
use Rattle.std.specs.Prelude.{◌≡◌, List, [], ℕ}
use Rattle.std.proofs.Math.Option.{Option}
use Rattle.protocol.specs.State.{State, with_device}
use Rattle.protocol.specs.Judge.{bare, succeeds, set_up}

-- the record afterwards is that of `set_up`
pub record Set (before : List ℕ) (version : Option ℕ) (after : List ℕ) : Type 0 where
  pub whole : (s : State) → s.device ≡ before → set_up s version ≡ succeeds (with_device s after) bare []
