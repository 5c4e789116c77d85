-- A reply that was written, and what is lent after it.
use Rattle.std.specs.Prelude.{◌≡◌, List, ℕ}
use Rattle.fields_write_bytes.specs.Pushed.{Starts}
use Rattle.protocol.specs.State.{State}
use Rattle.protocol.specs.Judge.{Result}
use Rattle.protocol.specs.Answer.{Reply, reply}
use Rattle.reply_command.specs.declared.ReplyTo.{ReplyTo}
use Rattle.reply_command.specs.Repeated.{message_to}
use Rattle.protocol.specs.Reply.{reply_bytes}

abbrev pub bytes_of : Reply State → List ℕ
bytes_of (reply r s) = reply_bytes r

abbrev pub state_of : Reply State → State
state_of (reply r s) = s

-- the signed reply that says a result, by what it repeats of its request, under a key
abbrev pub replied : ReplyTo → List ℕ → Result → Reply State
replied to key r = reply (message_to to key r.body r.code r.value) r.state

-- the reply's n bytes stand first in the buffer, every other byte of it is as it was, and what is lent is what the reply leaves
pub record Sent (x : Reply State) (n : ℕ) (out out' : List ℕ) (after : State) : Type 0 where
  pub told : Starts n (bytes_of x) out out'
  pub left : state_of x ≡ after
