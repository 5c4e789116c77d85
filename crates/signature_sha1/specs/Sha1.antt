-- SHA-1 as FIPS 180-4 defines it, on words that are numbers below 2^32 and bytes that are numbers below 2^8.
-- Assumes nothing.
use Rattle.std.specs.Prelude.{Option, Some, None, cond, List, [], ◌∷◌, ◌++◌, ℕ, zero, suc, ◌+◌, ◌-◌, ◌*◌, ◌/◌, ◌%◌, ◌^◌, ltb, length, take, drop, replicate}
use Rattle.signature_sha1_compression.specs.declared.State.{State}
use Rattle.signature_sha1_compression.specs.Compression.{compress}

-- block i, counted from 0, of a list of bytes
unfoldable pub block : List ℕ → ℕ → List ℕ
block bs i = take 64 (drop (64 * i) bs)

-- §6.1.2: the hash value after i blocks of bs, from h
unfoldable pub chain : State → List ℕ → ℕ → State
chain h bs zero = h
chain h bs (suc i) = compress (chain h bs i) (block bs i)

-- v as k bytes, the highest first
unfoldable pub be : ℕ → ℕ → List ℕ
be zero v = []
be (suc k) v = v / 2 ^ (8 * k) % 2 ^ 8 ∷ be k v

-- §5.1.1: how many zero bytes follow the byte 80 hex after n bytes. `zeros-right` and `zeros-least` of `Sha1Laws` are the standard's rule.
unfoldable pub zeros : ℕ → ℕ
zeros n = (119 - n % 64) % 64

-- what is put behind a message of n bytes
unfoldable pub pad : ℕ → List ℕ
pad n = 0x80 ∷ (replicate (zeros n) 0 ++ be 8 (8 * n))

-- the hash value from h, over whole blocks bs
unfoldable pub overall : State → List ℕ → State
overall h bs = chain h bs (length bs / 64)

-- the hash value from h, which stands for `taken` bytes already taken, over the rest of the message
unfoldable pub finish : State → ℕ → List ℕ → State
finish h taken text = overall h (text ++ pad (taken + length text))

-- §5.3.1
abbrev pub H0 : State
H0 = record { a = 0x67452301; b = 0xefcdab89; c = 0x98badcfe; d = 0x10325476; e = 0xc3d2e1f0 }

unfoldable pub bytes : State → List ℕ
bytes s = be 4 s.a ++ (be 4 s.b ++ (be 4 s.c ++ (be 4 s.d ++ be 4 s.e)))

-- the digest of a message, as five words and as twenty bytes
unfoldable pub sha1_words : List ℕ → State
sha1_words text = finish H0 0 text

unfoldable pub sha1 : List ℕ → List ℕ
sha1 text = bytes (sha1_words text)

-- what a call that makes a digest answers: a number, 0 where it is made, and its bytes, none where it is not
pub record Answer : Type 0 where
  pub number : ℕ
  pub digest : List ℕ

-- §1: a text of fewer than 2^64 bits, so of at most 2^61 - 1 bytes; a longer one has no digest
unfoldable pub sha1_answer : List ℕ → Answer
sha1_answer text = cond (ltb (8 * length text) (2 ^ 64)) (record { number = 0; digest = sha1 text }) (record { number = 1; digest = [] })

-- the number and the bytes of each case of what `sha1` gives
abbrev pub digest_answer : Option State → Answer
digest_answer (Some s) = record { number = 0; digest = bytes s }
digest_answer None = record { number = 1; digest = [] }
