-- What follows of the definition of `Varint`: the reader reads it back, its length, and that nothing shorter reads as the same number.
use Rattle.std.specs.Prelude.{ℕ, zero, suc, ◌+◌, ◌*◌, ◌/◌, ◌%◌, ◌^◌, ◌≤◌, ◌<◌, ◌≡◌, refl, List, [], ◌∷◌, ◌++◌, Bool, true, false, cond, length, ltb}
use Rattle.std.proofs.Common.{arith, ap, ltb-true, ltb-false, lt-ltb, le-ltb}
use Rattle.fields_wire.specs.Reader.{nothing, got}
use Rattle.fields_wire.specs.ReaderLaws.{never, choose-got}
use Rattle.fields_wire.specs.Wire.{end_below, on_top, varint_in, varint}
use Rattle.fields_wire.specs.WireLaws.{steady-varint, on_top-got}
use Rattle.fields_wire.specs.Varint.{varint_up, varint_bytes}

up-reads : (n v : ℕ) → v < 2 * 128 ^ n → varint_in (suc n) (varint_up n v) ≡ got v []
unfolding varint_up varint_in
up-reads zero v h = rw (lt-ltb v 128 (omega arith), lt-ltb v 2 (omega arith))
up-reads (suc n) v h = go (ltb v 128) refl (λ q. up-reads n (v / 128) q)
  where
    go : (t : Bool) → ltb v 128 ≡ t → (v / 128 < 2 * 128 ^ n → varint_in (suc n) (varint_up n (v / 128)) ≡ got (v / 128) [])
        → varint_in (suc (suc n)) (cond t (v ∷ []) ((v % 128 + 128) ∷ varint_up n (v / 128))) ≡ got v []
    go true e ih = rw e
    go false e ih =
        let q : varint_in (suc n) (varint_up n (v / 128)) ≡ got (v / 128) [] = ih (omega arith) in
        let w : (v % 128 + 128) % 128 + 128 * (v / 128) ≡ v = omega arith in
        rw (le-ltb (v % 128 + 128) 128 (omega arith), q, w)

pub varint-whole : (v : ℕ) → v < 2 ^ 64 → varint (varint_bytes v) ≡ got v []
varint-whole v h = up-reads 9 v h

-- the reader reads it back, whatever follows
pub varint-back : (v : ℕ) (xs : List ℕ) → v < 2 ^ 64 → varint (varint_bytes v ++ xs) ≡ got v xs
varint-back v xs h = (steady-varint 10).more (varint_bytes v) xs (varint-whole v h)

-- its length: at most n bytes if v is below 128 ^ n
up-length : (m n v : ℕ) → v < 128 ^ suc n → length (varint_up m v) ≤ suc n
unfolding varint_up
up-length zero n v h = omega arith
up-length (suc m) n v h = go n h (ltb v 128) refl (λ k q. up-length m k (v / 128) q)
  where
    go : (n : ℕ) → v < 128 ^ suc n → (t : Bool) → ltb v 128 ≡ t → ((k : ℕ) → v / 128 < 128 ^ suc k → length (varint_up m (v / 128)) ≤ suc k)
        → length (cond t (v ∷ []) ((v % 128 + 128) ∷ varint_up m (v / 128))) ≤ suc n
    go n h true e ih = omega arith
    go zero h false e ih = absurd (omega (arith, ltb-false v 128 e))
    go (suc k) h false e ih = omega (arith, ih k (omega arith))

pub varint-length : (n v : ℕ) → v < 128 ^ suc n → length (varint_bytes v) ≤ suc n
varint-length n v h = up-length 9 n v h

pos : (n : ℕ) → 1 ≤ 128 ^ n
pos zero = omega arith
pos (suc n) = omega (arith, pos n)

-- and no less: above 128 ^ n - 1 it takes more than n bytes
up-long : (m n v : ℕ) → n ≤ m → 128 ^ n ≤ v → n < length (varint_up m v)
unfolding varint_up
up-long m zero v l h = go m
  where
    go : (m : ℕ) → 0 < length (varint_up m v)
    go zero = omega arith
    go (suc m) = pick (ltb v 128)
      where
        pick : (t : Bool) → 0 < length (cond t (v ∷ []) ((v % 128 + 128) ∷ varint_up m (v / 128)))
        pick true = omega arith
        pick false = omega arith
up-long zero (suc n) v l h = absurd (omega arith)
up-long (suc m) (suc n) v l h = go (ltb v 128) refl (up-long m n (v / 128) (omega arith) (omega arith))
  where
    go : (t : Bool) → ltb v 128 ≡ t → n < length (varint_up m (v / 128)) → suc n < length (cond t (v ∷ []) ((v % 128 + 128) ∷ varint_up m (v / 128)))
    go true e ih = absurd (omega (arith, ltb-true v 128 e, pos n))
    go false e ih = omega arith

pub varint-long : (n v : ℕ) → n ≤ 9 → 128 ^ n ≤ v → n < length (varint_bytes v)
varint-long n v l h = up-long 9 n v l h

-- no other reading of a number is shorter
up-shortest : (m n : ℕ) (xs : List ℕ) {v : ℕ} {r : List ℕ} → varint_in n xs ≡ got v r → length (varint_up m v) + length r ≤ length xs
unfolding varint_in varint_up
up-shortest m zero xs e = never e
up-shortest m (suc k) [] e = never e
up-shortest zero (suc k) (b ∷ xs) {v} {r} e = (steady-varint (suc k)).less (b ∷ xs) e
up-shortest (suc m) (suc k) (b ∷ xs) {v} {r} e = go (ltb b 128) refl e (λ w q. up-shortest m k xs {v = w} {r = r} q)
  where
    small : v < 128 → length r ≤ length xs → length (cond (ltb v 128) (v ∷ []) ((v % 128 + 128) ∷ varint_up m (v / 128))) + length r ≤ suc (length xs)
    small l h = rw (lt-ltb v 128 l) (omega arith)

    pick : (t : Bool) (w : ℕ) → v / 128 ≡ w → length (varint_up m w) + length r ≤ length xs
        → length (cond t (v ∷ []) ((v % 128 + 128) ∷ varint_up m (v / 128))) + length r ≤ suc (length xs)
    pick true w d h = omega arith
    pick false w d h = rw d (omega arith)

    go : (t : Bool) → ltb b 128 ≡ t → cond t (cond (ltb b (end_below k)) (got b xs) nothing) (on_top b (varint_in k xs)) ≡ got v r
        → ((w : ℕ) → varint_in k xs ≡ got w r → length (varint_up m w) + length r ≤ length xs)
        → length (cond (ltb v 128) (v ∷ []) ((v % 128 + 128) ∷ varint_up m (v / 128))) + length r ≤ suc (length xs)
    go true q h ih =
        let i = choose-got (ltb b (end_below k)) (got b xs) h in
        let d : b ≡ v = cc i.1 in
        let x : xs ≡ r = cc i.1 in
        small (omega (arith, ltb-true b 128 q)) (omega (arith, ap length x))
    go false q h ih =
        let i = on_top-got b (varint_in k xs) h in
        pick (ltb v 128) i.0 (omega (arith, i.2)) (ih i.0 i.1)

pub varint-shortest : (xs : List ℕ) {v : ℕ} {r : List ℕ} → varint xs ≡ got v r → length (varint_bytes v) + length r ≤ length xs
varint-shortest xs e = up-shortest 9 10 xs e

-- one byte, or the low seven bits and the varint of the rest
up_same : (m n v : ℕ) → v < 128 ^ suc m → v < 128 ^ suc n → varint_up m v ≡ varint_up n v
unfolding varint_up
up_same zero zero v h l = refl
up_same zero (suc n) v h l = rw (lt-ltb v 128 (omega arith))
up_same (suc m) zero v h l = rw (lt-ltb v 128 (omega arith))
up_same (suc m) (suc n) v h l =
    ap (λ r. cond (ltb v 128) (v ∷ []) ((v % 128 + 128) ∷ r)) (up_same m n (v / 128) (omega arith) (omega arith))

pub varint-one : (v : ℕ) → v < 128 → varint_bytes v ≡ v ∷ []
unfolding varint_up
varint-one v h = rw (lt-ltb v 128 h)

pub varint-more : (v : ℕ) → 128 ≤ v → v < 2 ^ 64 → varint_bytes v ≡ (v % 128 + 128) ∷ varint_bytes (v / 128)
unfolding varint_up
varint-more v h l = rw (le-ltb v 128 h) (ap (λ r. (v % 128 + 128) ∷ r) (up_same 8 9 (v / 128) (omega arith) (omega arith)))

pub varint-ten : (v : ℕ) → v < 2 ^ 64 → length (varint_bytes v) ≤ 10
varint-ten v h = varint-length 9 v (omega arith)
