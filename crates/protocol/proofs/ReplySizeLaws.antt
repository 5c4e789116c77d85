-- Every reply, framed with its value part, fits 4,096 bytes, and so the reply buffer: a shorter one is refused.
use Rattle.std.specs.Prelude.{ℕ, ◌^◌, ◌≤◌, ◌<◌, ◌≡◌, refl, Bool, true, false, List, ltb, length}
use Rattle.std.proofs.Common.{arith, ltb-false}
use Rattle.fields_encoding.proofs.BasicLaws.{never}
use Rattle.access_record.specs.Table.{table_good}
use Rattle.store_layout.specs.Store.{store_good}
use Rattle.protocol.specs.Frame.{frame_of}
use Rattle.protocol.specs.State.{State, table}
use Rattle.protocol.specs.Answer.{Outcome, answered, unless_refused, serve, answer}
use Rattle.protocol.specs.Box.{box, answers}
use Rattle.protocol.proofs.ReadBackLaws.{reply-says}

pub reply-size : (s : State) (out : ℕ) (xs r : List ℕ) (s' : State) (n : ℕ) → s.connection.number < 2 ^ 64 → answers s out xs ≡ answered r s' n
    → length r ≤ 4096
reply-size s out xs r s' n word e = (reply-says s out xs r s' n word e).says.short

not_short : (t1 t2 t3 t4 : Bool) (o : Outcome State) {r : List ℕ} {s' : State} {n : ℕ} → unless_refused t1 t2 t3 t4 o ≡ answered r s' n → t1 ≡ false
not_short true t2 t3 t4 o e = never (cc)
not_short false t2 t3 t4 o e = refl

pub reply-room : (s : State) (out : ℕ) (xs r : List ℕ) (s' : State) (n : ℕ) → s.connection.number < 2 ^ 64 → answers s out xs ≡ answered r s' n
    → length r ≤ out
unfolding answer
reply-room s out xs r s' n word e =
    let z = not_short (ltb out 4096) (store_good s.store) (table_good (table s)) s.connection.closed (serve box s (length xs) (frame_of xs)) e in
    omega (arith, ltb-false out 4096 z, reply-size s out xs r s' n word e)
