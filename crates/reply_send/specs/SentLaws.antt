-- A reply that was written is the reply that is due; an equal result is sent alike.
use Rattle.std.specs.Prelude.{◌≡◌, refl, List, ℕ}
use Rattle.std.proofs.Common.{subst}
use Rattle.fields_write_bytes.specs.Pushed.{Starts}
use Rattle.protocol.specs.State.{State}
use Rattle.protocol.specs.Judge.{Result}
use Rattle.reply_command.specs.declared.ReplyTo.{ReplyTo}
use Rattle.reply_command.specs.Repeated.{signed_reply_to}
use Rattle.reply_send.specs.Sent.{Sent, replied}

-- replies that were sent, by the results that they say
module _ (to : ReplyTo) (key : List ℕ) {n : ℕ} {out out' : List ℕ} where
  pub sends : (r : Result) → Starts n (signed_reply_to to key r.body r.code r.value) out out' → Sent (replied to key r) n out out' r.state
  sends r h = record { told = h; left = refl }

  pub sent-as : {x y : Result} {t : State} → x ≡ y → Sent (replied to key x) n out out' t → Sent (replied to key y) n out out' t
  sent-as {t = t} e h = subst (λ (x : Result). Sent (replied to key x) n out out' t) e h

  pub sends-as : {x y : Result} → x ≡ y → Starts n (signed_reply_to to key x.body x.code x.value) out out' → Sent (replied to key y) n out out' x.state
  sends-as {x} e h = sent-as e (sends x h)
