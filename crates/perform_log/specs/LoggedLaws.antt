-- The reply that GETLOG sends, by the types that are asked for.
use Rattle.std.specs.Prelude.{◌≡◌, Bool, true, false, cond, List, [], ℕ}
use Rattle.std.proofs.Common.{sym, ap, ◌∙◌}
use Rattle.fields_schema.specs.Tree.{among}
use Rattle.fields_write_bytes.specs.Pushed.{Starts}
use Rattle.protocol.specs.State.{State}
use Rattle.protocol.specs.Judge.{Result, log, fails, succeeds, log_with, log_of, logged}
use Rattle.reply_command.specs.declared.ReplyTo.{ReplyTo}
use Rattle.reply_command.specs.Repeated.{signed_reply_to}
use Rattle.reply_send.specs.Sent.{Sent, replied}
use Rattle.reply_send.specs.SentLaws.{sent-as, sends-as}

module _ (t : State) (types : List ℕ) where
  abbrev by_device : Bool → Result
  by_device b = cond b (fails t 7) (succeeds t (log (log_of t types)) [])

  module _ (a : ReplyTo) (by : List ℕ) {n : ℕ} {out out' : List ℕ} where
    -- a 7 among them
    pub sent-device : among 7 types ≡ true → Sent (replied a by (fails t 7)) n out out' t → Sent (replied a by (logged t types)) n out out' t
    sent-device e h = sent-as a by (ap by_device (sym e)) h

    -- the parts that are asked for
    pub sent-parts : {store readings : List ℕ} → t.store ≡ store → t.readings ≡ readings → among 7 types ≡ false → {u h f l : Bool} → u ≡ among 0 types → h ≡ among 1 types → f ≡ among 2 types → l ≡ among 6 types
        → Starts n (signed_reply_to a by (log (log_with store readings u h f l)) 1 []) out out'
        → Sent (replied a by (logged t types)) n out out' t
    sent-parts x y e p q r w s =
        let store = sym x in
        let readings = sym y in
        sends-as a by ((λ i. succeeds t (log (log_with (store i) (readings i) (p i) (q i) (r i) (w i))) []) ∙ ap by_device (sym e)) s
