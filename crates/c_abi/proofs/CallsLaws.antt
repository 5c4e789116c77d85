-- The next call starts from the state that this one left.
use Rattle.std.specs.Prelude.{◌≡◌, refl, List, ℕ, length}
use Rattle.std.proofs.Common.{sym, ap₂}
use Rattle.protocol.specs.State.{State, lent}
use Rattle.protocol.specs.Answer.{Outcome, refused, answered}
use Rattle.protocol.specs.Box.{answers}
use Rattle.c_connection.specs.FollowsLaws.{answers-leave}
use Rattle.c_connection.specs.Follows.{Leaves}
use Rattle.c_connection.specs.LayoutLaws.{becomes-back}
use Rattle.c_abi.specs.Calls.{leaves, answer_call}
use Rattle.c_abi.specs.LentState.{lent_state, state_after}

pub next-from : (store device connection readings input out counts : List ℕ) → length connection ≡ 32
    → (let r = answer_call store device connection readings input out counts in lent_state r.store r.device readings r.connection)
    ≡ state_after (lent_state store device readings connection) (answers (lent_state store device readings connection) (length out) input)
unfolding answer_call
next-from store device connection readings input out counts long =
    go (answers (lent_state store device readings connection) (length out) input) (answers-leave (lent_state store device readings connection) (length out) input)
  where
    go : (o : Outcome State) → Leaves (lent_state store device readings connection) o
        → (let r = leaves store device connection out counts o in lent_state r.store r.device readings r.connection) ≡ state_after (lent_state store device readings connection) o
    go (refused n) h = refl
    go (answered bytes s taken) h = ap₂ (lent s.store s.device) (sym h.1) (becomes-back connection s.connection long h.0)
