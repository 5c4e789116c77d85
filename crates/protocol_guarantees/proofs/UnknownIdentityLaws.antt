-- Step 2: "HMAC_FAILURE (2) and close, the same for an unknown identity".
use Rattle.std.specs.Prelude.{ℕ, ◌+◌, ◌≡◌, List, ltb, length}
use Rattle.std.proofs.Common.{sym, ap, ◌∙◌, subst₂}
use Rattle.std.proofs.Math.Option.{none, some}
use Rattle.fields_encoding.proofs.BasicLaws.{never}
use Rattle.access_record.specs.Table.{table_good}
use Rattle.store_layout.specs.Store.{store_good}
use Rattle.log_readings.specs.Lent.{readings_good}
use Rattle.signature_hmac.specs.Hmac.{hmac}
use Rattle.protocol.specs.State.{State, table}
use Rattle.protocol.specs.Frame.{frame_of, whole}
use Rattle.protocol.specs.Reading.{envelope, read_message, closing}
use Rattle.protocol.specs.Answer.{taking, unless_refused, unless_readings, reading, respond, serve, answer}
use Rattle.protocol.specs.Demand.{SameBut}
use Rattle.protocol.proofs.Demand3StepLaws.{both}
use Rattle.protocol.proofs.HmacFailureLaws.{failure-read}
use Rattle.protocol.specs.Box.{box, answers, close}

wrongly-signed : (s : State) (room : ℕ) (xs m v rest : List ℕ) → frame_of xs ≡ whole m v rest → reading box s m ≡ closing 2
    → answers s room xs
    ≡ unless_refused (ltb room 4096) (store_good s.store) (table_good (table s)) s.connection.closed (unless_readings box s (taking (9 + length m + length v) (close s 2)))
unfolding answer
wrongly-signed s room xs m v rest d e =
    ap (λ f. unless_refused (ltb room 4096) (store_good s.store) (table_good (table s)) s.connection.closed (serve box s (length xs) f)) d
    ∙ ap (λ x. unless_refused (ltb room 4096) (store_good s.store) (table_good (table s)) s.connection.closed
    (unless_readings box s (taking (9 + length m + length v) (respond box s v x)))) e

-- AN UNKNOWN IDENTITY AND A WRONG KEY CAN'T BE TOLD APART: the same refusal, or the same reply and the same state
pub unknown-as-wrong : (s : State) (room : ℕ) (xs xs' m m' v v' rest rest' : List ℕ) (i i' : ℕ) (sig sig' c c' key : List ℕ)
    → frame_of xs ≡ whole m v rest → read_message m ≡ some (envelope i sig c) → box.key_of s i ≡ none
    → frame_of xs' ≡ whole m' v' rest' → read_message m' ≡ some (envelope i' sig' c') → box.key_of s i' ≡ some key → (sig' ≡ hmac key c' → ⊥)
    → SameBut (9 + length m + length v) (9 + length m' + length v') (answers s room xs) (answers s room xs')
unknown-as-wrong s room xs xs' m m' v v' rest rest' i i' sig sig' c c' key d e nobody d' e' somebody wrong =
    let p = failure-read s m i sig c e (λ k q z. let y : none ≡ some k = sym nobody ∙ q in never (cc)) in
    let p' = failure-read s m' i' sig' c' e'
    (λ k q z. let y : some key ≡ some k = sym somebody ∙ q in let w : key ≡ k = cc in wrong (z ∙ ap (λ k. hmac k c') (sym w))) in
    subst₂ (SameBut (9 + length m + length v) (9 + length m' + length v')) (sym (wrongly-signed s room xs m v rest d p)) (sym (wrongly-signed s room xs' m' v' rest' d' p'))
    (both (ltb room 4096) (store_good s.store) (table_good (table s)) s.connection.closed (readings_good s.readings) (close s 2) (9 + length m + length v) (9 + length m' + length v'))
