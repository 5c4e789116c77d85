-- HMAC as RFC 2104 defines it, with SHA-1. Assumes nothing.
use Rattle.std.specs.Prelude.{Result, Ok, Err, List, [], ◌++◌, map, Bool, false, cond, ℕ, ◌-◌, leb, length, replicate}
use Rattle.std.specs.Int.Bits.{bit_xor}
use Rattle.signature_sha1_compression.specs.declared.State.{State}
use Rattle.signature_hmac.specs.declared.MacError.{MacError}
use Rattle.signature_hmac.specs.declared.MacError.TheVariants.{KeyTooLong, TextTooLong}
use Rattle.base_definitions.specs.Lists.{same_bytes}
use Rattle.signature_sha1.specs.Sha1.{sha1_words, sha1, bytes, Answer}

-- §2, steps 1, 2 and 5: a key of at most 64 bytes with zeros up to 64, each byte XOR v
unfoldable pub masked : ℕ → List ℕ → List ℕ
masked v key = map (λ b. bit_xor b v) (key ++ replicate (64 - length key) 0)

-- H((K XOR opad) ++ H((K XOR ipad) ++ text)), as five words, for a key of at most 64 bytes
unfoldable pub keyed_words : List ℕ → List ℕ → State
keyed_words key text = sha1_words (masked 0x5c key ++ sha1 (masked 0x36 key ++ text))

-- a key of more than 64 bytes is hashed first
unfoldable pub hmac_words : List ℕ → List ℕ → State
hmac_words key text = keyed_words (cond (leb (length key) 64) key (sha1 key)) text

unfoldable pub hmac : List ℕ → List ℕ → List ℕ
hmac key text = bytes (hmac_words key text)

-- document 01: "keys up to 128 bytes, … and up to 1,048,576 of text, else says so and gives no digest"
-- The standards would take a text of up to 2^61 - 65 bytes: with the 64 of the pad before it, one that SHA-1 takes.
unfoldable pub hmac_answer : List ℕ → List ℕ → Answer
hmac_answer key text =
    cond (leb (length key) 128)
    (cond (leb (length text) 1048576) (record { number = 0; digest = hmac key text }) (record { number = 2; digest = [] }))
    (record { number = 1; digest = [] })

-- the number and the bytes of each case of what `hmac` gives
abbrev pub mac_answer : Result State MacError → Answer
mac_answer (Ok s) = record { number = 0; digest = bytes s }
mac_answer (Err KeyTooLong) = record { number = 1; digest = [] }
mac_answer (Err TextTooLong) = record { number = 2; digest = [] }

-- is `sent` the hmac of a text under a key; no where there is none
unfoldable pub verified : List ℕ → List ℕ → List ℕ → Bool
verified key text sent = cond (leb (length key) 128) (cond (leb (length text) 1048576) (same_bytes (hmac key text) sent) false) false
