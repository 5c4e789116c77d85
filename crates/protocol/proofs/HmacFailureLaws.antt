-- Step 2: "Identity in the table and hmac right over commandBytes, 20 bytes. Otherwise HMAC_FAILURE (2) and close, the same for an unknown identity."
use Rattle.std.specs.Prelude.{ℕ, ◌≡◌, Bool, true, false, cond, List, ◌++◌, length, ltb}
use Rattle.std.proofs.Math.Path.{refl, ap}
use Rattle.std.proofs.Common.{◌∙◌}
use Rattle.std.proofs.Math.Option.{Option, none, some}
use Rattle.access_record.specs.Table.{table_good}
use Rattle.store_layout.specs.Store.{store_good}
use Rattle.log_readings.specs.Lent.{readings_good}
use Rattle.signature_hmac.specs.Hmac.{hmac}
use Rattle.protocol.specs.Frame.{frame, Fits}
use Rattle.protocol.specs.State as lent
use Rattle.protocol.specs.State.{State, table}
use Rattle.base_definitions.proofs.ListLaws.{same_bytes-true}
use Rattle.base_definitions.specs.Lists.{same_bytes}
use Rattle.protocol.specs.Reading.{envelope, read_message, decodes, closing, decoded, verified, opened, reading_by}
use Rattle.protocol.specs.Answer.{refused, answered, reading}
use Rattle.protocol.proofs.Demand3StepLaws as proved
use Rattle.protocol.proofs.Demand3StepLaws.{not-refused}
use Rattle.protocol.specs.Reply.{closing_reply}
use Rattle.protocol.specs.Box.{box, answers}

module _ (s : State) (m : List ℕ) (i : ℕ) (sig c : List ℕ) (sealed : read_message m ≡ some (envelope i sig c))
    -- no key that the table has for the identity makes the hmac right; of an unknown identity there is none
    (unverified : (key : List ℕ) → box.key_of s i ≡ some key → sig ≡ hmac key c → ⊥) where
  wrong : (key : List ℕ) → box.key_of s i ≡ some key → (t : Bool) → same_bytes sig (hmac key c) ≡ t → cond t (decoded i key (decodes c)) (closing 2) ≡ closing 2
  wrong key k true e = absurd (unverified key k (same_bytes-true sig (hmac key c) e))
  wrong key k false e = refl

  by_key : (o : Option (List ℕ)) → box.key_of s i ≡ o → verified hmac (box.key_of s) i sig c o ≡ closing 2
  by_key none k = refl
  by_key (some key) k = wrong key k (same_bytes sig (hmac key c)) refl

  pub failure-read : reading box s m ≡ closing 2
  unfolding reading_by
  failure-read = ap (opened hmac (box.key_of s)) sealed ∙ by_key (box.key_of s i) refl

  -- where not refused: one and the same closing reply, and the connection closed
  pub failure-answered : (out : ℕ) (v rest : List ℕ) → Fits m v → ((n : ℕ) → answers s out (frame m v ++ rest) ≡ refused n → ⊥)
      → answers s out (frame m v ++ rest) ≡ answered (closing_reply s.connection.number 2) (lent.closing s) (length (frame m v))
  failure-answered out v rest f h =
      let q = proved.answers box s out m v rest f failure-read in
      q ∙ not-refused (ltb out 4096) (store_good s.store) (table_good (table s)) s.connection.closed (readings_good s.readings)
      (answered (closing_reply s.connection.number 2) (lent.closing s) (length (frame m v))) (λ n z. h n (q ∙ z))
