-- Document 01, "Replies": shortest varints.
use Rattle.std.specs.Prelude.{cond, ℕ, zero, suc, ◌+◌, ◌/◌, ◌%◌, List, [], ◌∷◌, ltb}

-- seven bits at a time, the lowest first, each but the last with 128 on top; at most n + 1 bytes
unfoldable pub varint_up : ℕ → ℕ → List ℕ
varint_up zero v = v ∷ []
varint_up (suc n) v = cond (ltb v 128) (v ∷ []) ((v % 128 + 128) ∷ varint_up n (v / 128))

abbrev pub varint_bytes : ℕ → List ℕ
varint_bytes v = varint_up 9 v
