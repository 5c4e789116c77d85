-- What follows of the definitions of `Hmac`. Assumes nothing.
use Rattle.std.specs.Prelude.{◌≡◌, Err, refl, List, [], Bool, true, false, cond, ℕ, ◌≤◌, eqb, leb, length}
use Rattle.std.proofs.Common.{sym, le-leb, arith}
use Rattle.signature_sha1_compression.specs.declared.State.{State}
use Rattle.signature_sha1.specs.Sha1.{be, bytes, Answer}
use Rattle.base_definitions.specs.Lists.{same_bytes}
use Rattle.signature_hmac.specs.declared.MacError.{MacError}
use Rattle.signature_hmac.specs.declared.MacError.TheVariants.{KeyTooLong, TextTooLong}
use Rattle.signature_hmac.specs.Hmac.{hmac, hmac_answer, mac_answer, verified}
use Rattle.base_definitions.proofs.ListLaws.{same_bytes-self, same_bytes-true}

-- what a verification says, from what the call that makes the hmac answers
pub verified-by : (key text sent : List ℕ) (a : Answer) → a ≡ hmac_answer key text
    → cond (eqb a.number 0) (same_bytes a.digest sent) false ≡ verified key text sent
unfolding hmac_answer verified
verified-by key text sent a e = rw e (go (leb (length key) 128) (leb (length text) 1048576))
  where
    answer : Bool → Bool → Answer
    answer k t = cond k (cond t (record { number = 0; digest = hmac key text }) (record { number = 2; digest = [] })) (record { number = 1; digest = [] })

    go : (k t : Bool) → cond (eqb (answer k t).number 0) (same_bytes (answer k t).digest sent) false ≡ cond k (cond t (same_bytes (hmac key text) sent) false) false
    go true true = refl
    go true false = refl
    go false t = refl

-- a refusal has a number of its own
pub refused_number : (e : MacError) → 1 ≤ (mac_answer (Err e)).number
refused_number KeyTooLong = omega arith
refused_number TextTooLong = omega arith

pub never-verified : (key text sent : List ℕ) (e : MacError) → mac_answer (Err e) ≡ hmac_answer key text → false ≡ verified key text sent
never-verified key text sent KeyTooLong h = verified-by key text sent _ h
never-verified key text sent TextTooLong h = verified-by key text sent _ h

pub bytes-length : (s : State) → length (bytes s) ≡ 20
unfolding bytes be
bytes-length s = refl

-- exactly the twenty bytes of the hmac: the verification says yes to nothing else
pub verified-exactly : (key text sent : List ℕ) → length key ≤ 128 → length text ≤ 1048576
    → (verified key text sent ≡ true → sent ≡ hmac key text) × (verified key text (hmac key text) ≡ true)
unfolding verified
verified-exactly key text sent k t = (
  λ e. sym (same_bytes-true (hmac key text) sent (rw (le-leb (length key) 128 k, le-leb (length text) 1048576 t) at e)),
  rw (le-leb (length key) 128 k, le-leb (length text) 1048576 t) (same_bytes-self (hmac key text)),
)
