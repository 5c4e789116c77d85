-- The block of a key.
use Rattle.std.specs.Prelude.{◌≡◌, refl, List, [], ◌∷◌, ◌++◌, map, ℕ, zero, suc, ◌-◌, ◌≤◌, ◌<◌, length, get_or, replicate}
use Rattle.std.proofs.Common.{sym, ap, ap₂, ◌∙◌, arith}
use Rattle.std.specs.Int.Bits.{bit_xor, xor_zero_l}
use Rattle.std.proofs.lemmas.List.{length-map}
use Rattle.std.proofs.Math.Seq.{paste}
use Rattle.signature_sha1.specs.PaddedBlockLaws.{pasted}
use Rattle.signature_hmac.specs.Hmac.{masked}

map-replicate : (g : ℕ → ℕ) (m a : ℕ) → map g (replicate m a) ≡ replicate m (g a)
map-replicate g zero a = refl
map-replicate g (suc m) a = ap (◌∷◌ (g a)) (map-replicate g m a)

map-append : (g : ℕ → ℕ) (xs ys : List ℕ) → map g (xs ++ ys) ≡ map g xs ++ map g ys
map-append g [] ys = refl
map-append g (x ∷ xs) ys = ap (◌∷◌ (g x)) (map-append g xs ys)

pub masked-made : (v : ℕ) (key : List ℕ) → length key ≤ 64
    → paste (replicate 64 v) 0 (map (λ b. bit_xor b v) key) (length key) ≡ masked v key
unfolding masked
masked-made v key h =
    let g : ℕ → ℕ = λ b. bit_xor b v in
    let n : length (map g key) ≡ length key = length-map key g in
    ap (paste (replicate 64 v) 0 (map g key)) (sym n)
    ∙ pasted (map g key) v (omega arith)
    ∙ ap₂ (λ (k a : ℕ). map g key ++ replicate (64 - k) a) n (sym (xor_zero_l v))
    ∙ ap (λ z. map g key ++ z) (sym (map-replicate g (64 - length key) 0))
    ∙ sym (map-append g key (replicate (64 - length key) 0))

pub map_at : (g : ℕ → ℕ) (l : List ℕ) (k : ℕ) → k < length l → get_or (map g l) k 0 ≡ g (get_or l k 0)
map_at g [] k h = absurd (omega arith)
map_at g (x ∷ l) zero h = refl
map_at g (x ∷ l) (suc k) h = map_at g l k (omega arith)
