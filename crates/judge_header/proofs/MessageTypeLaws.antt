-- Laws of messageTypes.
use Rattle.std.specs.Prelude.{◌≡◌, ℕ, None}
use Rattle.std.proofs.Common.{ne_eqb}
use Rattle.protocol.specs.Operation.{asked, asked_in}

pub not-built : (n : ℕ) → (n ≡ 2 → ⊥) → (n ≡ 4 → ⊥) → (n ≡ 6 → ⊥) → (n ≡ 8 → ⊥) → (n ≡ 10 → ⊥) → (n ≡ 12 → ⊥) → (n ≡ 16 → ⊥)
    → (n ≡ 22 → ⊥) → (n ≡ 24 → ⊥) → (n ≡ 26 → ⊥) → (n ≡ 30 → ⊥) → (n ≡ 32 → ⊥) → None ≡ asked n
unfolding asked asked_in
not-built n a b c d e f g h i j k l =
    rw (ne_eqb n 2 a, ne_eqb n 4 b, ne_eqb n 6 c, ne_eqb n 8 d, ne_eqb n 10 e, ne_eqb n 12 f, ne_eqb n 16 g, ne_eqb n 22 h, ne_eqb n 24 i, ne_eqb n 26 j, ne_eqb n 30 k, ne_eqb n 32 l)
