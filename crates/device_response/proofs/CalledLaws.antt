-- What a response leaves, one law for each way that the call goes.
use Rattle.std.specs.Prelude.{◌≡◌, Bool, true, false, cond, List, ◌++◌, ℕ, ◌+◌, ◌-◌, ◌≤◌, length, take, drop, Err}
use Rattle.std.proofs.Common.{sym, ap, subst, ◌∙◌, arith, length-take, length-drop}
use Rattle.log_readings.specs.Lent.{readings_good}
use Rattle.protocol.specs.StatusCode.{CONNECTION_TERMINATED}
use Rattle.protocol.specs.State.{State}
use Rattle.protocol.specs.Frame.{Framing, more, closes, whole, frame_of}
use Rattle.protocol.specs.Answer.{Outcome, refused, Reply, reply, taking, reading, respond, serve}
use Rattle.protocol.specs.Reply.{reply_bytes}
use Rattle.protocol.specs.Box.{box, answers, close}
use Rattle.reply_send.specs.Sent.{Sent}
use Rattle.device_response.specs.declared.Refusal.TheVariants.{OutShort, StoreBad, DeviceBad, Closed}
use Rattle.device_response.specs.Called.{Called, refusing, answering, Response, called, afterwards}

-- the refusals before the frame is looked at
module _ (s : State) (out xs : List ℕ) where
  abbrev outcome : Outcome State
  outcome = answers s (length out) xs

  abbrev Told : Response → Type 0
  Told r = called s.connection s.readings r s.store s.device out ≡ afterwards s out outcome

  pub told-out-short : outcome ≡ refused 1 → Told (Err OutShort)
  told-out-short e = ap (afterwards s out) (sym e)

  pub told-store-bad : outcome ≡ refused 2 → Told (Err StoreBad)
  told-store-bad e = ap (afterwards s out) (sym e)

  pub told-device-bad : outcome ≡ refused 3 → Told (Err DeviceBad)
  told-device-bad e = ap (afterwards s out) (sym e)

  pub told-closed : outcome ≡ refused 4 → Told (Err Closed)
  told-closed e = ap (afterwards s out) (sym e)

pub answered-by : (s : State) (t : ℕ) {x : Reply State} {n : ℕ} {out out' : List ℕ} {after : State} → Sent x n out out' after
    → answering n t after out' ≡ afterwards s out (taking t x)
answered-by s t {x = reply r a} {n = n} {out} {out'} {after} h = go h.told.next (sym h.left) h.told.same
  where
    b : List ℕ
    b = reply_bytes r

    go : n ≡ length b → after ≡ a → out' ≡ b ++ drop n out
        → answering n t after out' ≡ answering (length b) t a (b ++ drop (length b) out)
    go e f g =
        let k : out' ≡ b ++ drop (length b) out = g ∙ ap (λ (n : ℕ). b ++ drop n out) e in
        λ i. answering (e i) t (f i) (k i)

-- by the frame
module _ (s : State) (out xs : List ℕ) where
  abbrev reply_to : List ℕ → List ℕ → Reply State
  reply_to v m = respond box s v (reading box s m)

  abbrev served : Framing → Called
  served f = afterwards s out (serve box s (length xs) f)

  pub more-due : more ≡ frame_of xs → refusing 5 s out ≡ served (frame_of xs)
  more-due e = ap served e

  -- readings that are refused, once it is not MORE
  module _ (bad : readings_good s.readings ≡ false) where
    refused-readings : (o : Outcome State) → refusing 7 s out ≡ afterwards s out (cond (readings_good s.readings) o (refused 7))
    refused-readings o = ap (λ (b : Bool). afterwards s out (cond b o (refused 7))) (sym bad)

    pub closing-bad : closes ≡ frame_of xs → refusing 7 s out ≡ served (frame_of xs)
    closing-bad e = refused-readings (taking (length xs) (close s CONNECTION_TERMINATED)) ∙ ap served e

    pub whole-bad : {m v r : List ℕ} → whole m v r ≡ frame_of xs → refusing 7 s out ≡ served (frame_of xs)
    whole-bad {m} {v} e = refused-readings (taking (9 + length m + length v) (reply_to v m)) ∙ ap served e

  -- good ones, and the reply
  module _ (good : readings_good s.readings ≡ true) where
    passed : (o : Outcome State) → afterwards s out o ≡ afterwards s out (cond (readings_good s.readings) o (refused 7))
    passed o = ap (λ (b : Bool). afterwards s out (cond b o (refused 7))) (sym good)

    module _ {n : ℕ} {out' : List ℕ} {after : State} where
      pub closing-frame : closes ≡ frame_of xs → Sent (close s CONNECTION_TERMINATED) n out out' after
          → answering n (length xs) after out' ≡ served (frame_of xs)
      closing-frame e h = answered-by s (length xs) h ∙ passed (taking (length xs) (close s CONNECTION_TERMINATED)) ∙ ap served e

      pub whole-frame : {m v r : List ℕ} {t : ℕ} → whole m v r ≡ frame_of xs → t ≡ 9 + length m + length v → Sent (reply_to v m) n out out' after
          → answering n t after out' ≡ served (frame_of xs)
      whole-frame {m} {v} {t = t} e g h =
          answered-by s t h ∙ ap (λ (t : ℕ). afterwards s out (taking t (reply_to v m))) g
          ∙ passed (taking (9 + length m + length v) (reply_to v m)) ∙ ap served e

      -- a frame as the code cuts it
      pub whole-cut : (m v : ℕ) → whole (take m (drop 9 xs)) (take v (drop (9 + m) xs)) (drop (9 + m + v) xs) ≡ frame_of xs → 9 + m + v ≤ length xs
          → Sent (reply_to (take (9 + m + v - (9 + m)) (drop (9 + m) xs)) (take (9 + m - 9) (drop 9 xs))) n out out' after
          → answering n (9 + m + v) after out' ≡ served (frame_of xs)
      whole-cut m v e l h =
          let f : 9 + m + v - (9 + m) ≡ v = omega arith in
          let g : 9 + m - 9 ≡ m = omega arith in
          let k : 9 + m + v ≡ 9 + length (take m (drop 9 xs)) + length (take v (drop (9 + m) xs)) = simp (length-take, length-drop) (omega arith) in
          whole-frame e k (subst (λ (b : ℕ). Sent (reply_to (take v (drop (9 + m) xs)) (take b (drop 9 xs))) n out out' after) g
          (subst (λ (b : ℕ). Sent (reply_to (take b (drop (9 + m) xs)) (take (9 + m - 9) (drop 9 xs))) n out out' after) f h))
