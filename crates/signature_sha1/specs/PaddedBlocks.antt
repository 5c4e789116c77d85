-- What the parts of the code do: names for the contracts of the functions that no other crate calls.
use Rattle.std.specs.Prelude.{List, ◌∷◌, ◌++◌, ℕ, ◌-◌, ◌*◌, length, take, replicate}
use Rattle.signature_sha1.specs.Sha1.{be}

-- fewer than 64 bytes, the byte 80 hex, and zeros up to 64
unfoldable pub marked_block : List ℕ → List ℕ
marked_block rest = rest ++ (0x80 ∷ replicate (63 - length rest) 0)

-- a block whose last eight bytes are the size in bits of a message of n bytes
unfoldable pub sized_block : List ℕ → ℕ → List ℕ
sized_block b n = take 56 b ++ be 8 (8 * n)
