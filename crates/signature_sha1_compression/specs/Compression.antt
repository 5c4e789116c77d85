-- The compression function of SHA-1 as FIPS 180-4 defines it, on words that are numbers below 2^32 and bytes that are numbers below 2^8.
-- Assumes nothing.
use Rattle.std.specs.Prelude.{ℕ, zero, suc, ◌+◌, ◌-◌, ◌*◌, ◌/◌, ◌%◌, ◌^◌, cond, List, [], ◌∷◌, ◌++◌, bit_and, bit_or, bit_xor, nat_lt, slice_index}
use Rattle.signature_sha1_compression.specs.declared.State.{State}

-- §2.2.2, §3.2: x + y modulo 2^32; the complement; ROTL^n
unfoldable pub add : ℕ → ℕ → ℕ
add x y = (x + y) % 2 ^ 32

abbrev pub flip : ℕ → ℕ
flip x = 2 ^ 32 - 1 - x

abbrev pub ROTL : ℕ → ℕ → ℕ
ROTL n x = bit_or (x * 2 ^ n % 2 ^ 32) (x / 2 ^ (32 - n))

-- §4.1.1
abbrev pub Ch : ℕ → ℕ → ℕ → ℕ
Ch x y z = bit_xor (bit_and x y) (bit_and (flip x) z)

abbrev pub Parity : ℕ → ℕ → ℕ → ℕ
Parity x y z = bit_xor (bit_xor x y) z

abbrev pub Maj : ℕ → ℕ → ℕ → ℕ
Maj x y z = bit_xor (bit_xor (bit_and x y) (bit_and x z)) (bit_and y z)

unfoldable pub f : ℕ → ℕ → ℕ → ℕ → ℕ
f t x y z = cond (nat_lt t 20) (Ch x y z) (cond (nat_lt t 40) (Parity x y z) (cond (nat_lt t 60) (Maj x y z) (Parity x y z)))

-- §4.2.1
unfoldable pub K : ℕ → ℕ
K t = cond (nat_lt t 20) 0x5a827999 (cond (nat_lt t 40) 0x6ed9eba1 (cond (nat_lt t 60) 0x8f1bbcdc 0xca62c1d6))

-- §6.1.2, step 3: one round, with the value m of its function, its constant k and its schedule word w
unfoldable pub turned : ℕ → ℕ → ℕ → State → State
turned m k w s = record { a = add (add (add (add (ROTL 5 s.a) m) s.e) k) w; b = s.a; c = ROTL 30 s.b; d = s.c; e = s.d }

-- round t
unfoldable pub step : ℕ → ℕ → State → State
step t w s = turned (f t s.b s.c s.d) (K t) w s

-- §3.1: the big-endian word that the four bytes at `at` are
abbrev pub word : List ℕ → ℕ → ℕ
word bs at = slice_index bs at * 2 ^ 24 + slice_index bs (at + 1) * 2 ^ 16 + slice_index bs (at + 2) * 2 ^ 8 + slice_index bs (at + 3)

-- §6.1.2, step 1: schedule word t of the block m, from the list ws of the words before it
unfoldable pub next_w : List ℕ → List ℕ → ℕ → ℕ
next_w m ws t =
    cond (nat_lt t 16) (word m (4 * t))
    (ROTL 1 (bit_xor (bit_xor (bit_xor (slice_index ws (t - 3)) (slice_index ws (t - 8))) (slice_index ws (t - 14))) (slice_index ws (t - 16))))

unfoldable pub grow : List ℕ → ℕ → List ℕ → List ℕ
grow m t ws = ws ++ (next_w m ws t ∷ [])

-- the first t schedule words of the block m
unfoldable pub words : List ℕ → ℕ → List ℕ
words m zero = []
words m (suc t) = grow m t (words m t)

-- W_t. `W-first` and `W-later` of `CompressionLaws` are the two lines of the standard.
unfoldable pub W : List ℕ → ℕ → ℕ
W m t = next_w m (words m t) t

-- §6.1.2, steps 2 and 3: the working variables after t rounds over the block m, from s
unfoldable pub rounds : List ℕ → State → ℕ → State
rounds m s zero = s
rounds m s (suc t) = step t (W m t) (rounds m s t)

-- §6.1.2, step 4
unfoldable pub add_all : State → State → State
add_all s v = record { a = add s.a v.a; b = add s.b v.b; c = add s.c v.c; d = add s.d v.d; e = add s.e v.e }

unfoldable pub compress : State → List ℕ → State
compress s m = add_all s (rounds m s 80)
