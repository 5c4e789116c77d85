-- A call as its host finds it: the reply buffer before and after it, and the state that the next call on the connection starts from.
use Rattle.std.specs.Prelude.{ℕ, ◌≤◌, ◌≡◌, true, List, length, take, drop}
use Rattle.access_record.specs.Table.{table_good}
use Rattle.store_layout.specs.Store.{store_good}
use Rattle.protocol.specs.State.{State, table}
use Rattle.protocol.specs.Answer.{refused, answered}
use Rattle.protocol.specs.Box.{answers}

-- refused with the number n: nothing changed
pub record HostRefused (s : State) (input out : List ℕ) (n : ℕ) (out' : List ℕ) (s' : State) : Type 0 where
  pub is : answers s (length out) input ≡ refused n
  pub same_state : s' ≡ s
  pub same_out : out' ≡ out

-- answered: the first bytes of the buffer are the reply, and s' is the state that `answers` leaves
pub record HostAnswered (s : State) (input out : List ℕ) (written taken : ℕ) (out' : List ℕ) (s' : State) : Type 0 where
  pub is : answers s (length out) input ≡ answered (take written out') s' taken
  pub rest_stays : drop written out' ≡ drop written out
  -- it fits every reply buffer that is not refused
  pub short : written ≤ 4096
  -- the next call is not refused with 2 or 3
  pub good_store : store_good s'.store ≡ true
  pub good_record : table_good (table s') ≡ true
