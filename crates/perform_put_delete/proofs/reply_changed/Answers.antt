use mathlib.Core.Path.{◌≡◌, ap}
use mathlib.Core.Bool.{false}
use mathlib.Core.List.{List}
use Prim.Native.Nat.{ℕ}
use lib.Dec.{eqb}
use Rattle.protocol.specs.Failure.{code_of}
use Rattle.protocol.specs.State.{State, with_store}
use Rattle.protocol.specs.Judge.{fails}
use Rattle.protocol.proofs.FailureLaws.{says-code, code-failed}
use Rattle.reply_send.specs.SentLaws.{sent-as}
use Rattle.perform_put_delete.proofs.Results.{not_done, is-done}
use Rattle.perform_put_delete.proofs.reply_changed.Goals as goal

pub returns-in-Ok : goal.returns-in-Ok
returns-in-Ok c =
    let a = c.args in
    λ (s : State) (l : List ℕ) (k : eqb (code_of a.done) 1 ≡ false → l ≡ s.store).
    is-done a.reply_to a.signing_key.now (code_of a.done) s l (ap code_of c.in-Ok.is) (c.key_value_reply.ensures (with_store s l))

pub returns-in-Err : goal.returns-in-Err
returns-in-Err c =
    let a = c.args in
    λ (s : State) (l : List ℕ) (k : eqb (code_of a.done) 1 ≡ false → l ≡ s.store).
    not_done a.reply_to a.signing_key.now (code_of a.done) s l (code-failed c.in-Err.is) k
    (sent-as a.reply_to a.signing_key.now (ap (fails s) (says-code c.in-Err.is c.number.ensures)) (c.status.ensures s))
