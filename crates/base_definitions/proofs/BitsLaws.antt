-- A bit that is set is there, and the others stand.
use Rattle.std.specs.Prelude.{◌≡◌, refl, Bool, true, false, cond, ◌||◌, ℕ, zero, suc, ◌+◌, ◌*◌, ◌/◌, ◌%◌, ◌^◌, ◌≤◌, ◌<◌, eqb}
use Rattle.std.proofs.Common.{sym, ap, ap₂, ◌∙◌, not-suc-le-zero, arith, pow_mono, eq-eqb, ne_eqb, eqb-true}
use Rattle.std.proofs.Math.Nat.{pow-succ', div-div-eq-div-mul}
use Rattle.std.proofs.lemmas.Bool.{eqb-false}
use Rattle.base_definitions.specs.Bits.{bit, with_bit}

half_pow : (m p : ℕ) → m / 2 ^ suc p ≡ m / 2 / 2 ^ p
half_pow m p = ap (λ (x : ℕ). m / x) (pow-succ' 2 p) ∙ sym (div-div-eq-div-mul m 2 (2 ^ p))

even-pow : (m p : ℕ) → (m + 2 ^ suc p) / 2 ≡ m / 2 + 2 ^ p
even-pow m p = let e : 2 ^ suc p ≡ 2 * 2 ^ p = pow-succ' 2 p in omega arith

bit-zero : (m : ℕ) → bit m 0 ≡ eqb (m % 2) 1
unfolding bit
bit-zero m = let e : m / 2 ^ 0 % 2 ≡ m % 2 = omega arith in ap (λ (x : ℕ). eqb x 1) e

bit-suc : (m p : ℕ) → bit m (suc p) ≡ bit (m / 2) p
unfolding bit
bit-suc m p = ap (λ (x : ℕ). eqb (x % 2) 1) (half_pow m p)

eqb-suc : (a b : ℕ) → eqb (suc a) (suc b) ≡ eqb a b
eqb-suc a b = go (eqb a b) refl
  where
    go : (t : Bool) → eqb a b ≡ t → eqb (suc a) (suc b) ≡ t
    go true e = let h = eqb-true a b e in eq-eqb (suc a) (suc b) (ap suc h)
    go false e = let h = eqb-false a b e in ne_eqb (suc a) (suc b) (λ q. h (let r : a ≡ b = omega arith in r))

even : (m : ℕ) → bit m 0 ≡ false → m % 2 ≡ 0
even m e = let h = eqb-false (m % 2) 1 (sym (bit-zero m) ∙ e) in omega arith

-- a bit that was not there is put in: it is there, and the others stand
pub set-bit : (p q m : ℕ) → bit m p ≡ false → bit (m + 2 ^ p) q ≡ (eqb q p || bit m q)
set-bit zero zero m e =
    let h = even m e in
    let k : (m + 2 ^ 0) % 2 ≡ 1 = omega arith in
    bit-zero (m + 2 ^ 0) ∙ eq-eqb ((m + 2 ^ 0) % 2) 1 k
set-bit zero (suc q) m e =
    let h = even m e in
    let k : (m + 2 ^ 0) / 2 ≡ m / 2 = omega arith in
    bit-suc (m + 2 ^ 0) q ∙ ap (λ (x : ℕ). bit x q) k ∙ sym (bit-suc m q)
    ∙ sym (ap (λ (t : Bool). (t || bit m (suc q))) (ne_eqb (suc q) 0 (λ z. omega arith)))
set-bit (suc p) zero m e =
    let x : 2 ^ suc p ≡ 2 * 2 ^ p = pow-succ' 2 p in
    let k : (m + 2 ^ suc p) % 2 ≡ m % 2 = omega arith in
    bit-zero (m + 2 ^ suc p) ∙ ap (λ (x : ℕ). eqb x 1) k ∙ sym (bit-zero m)
    ∙ sym (ap (λ (t : Bool). (t || bit m 0)) (ne_eqb 0 (suc p) (λ z. omega arith)))
set-bit (suc p) (suc q) m e =
    bit-suc (m + 2 ^ suc p) q ∙ ap (λ (x : ℕ). bit x q) (even-pow m p)
    ∙ set-bit p q (m / 2) (sym (bit-suc m p) ∙ e)
    ∙ ap₂ ◌||◌ (sym (eqb-suc q p)) (sym (bit-suc m q))

pub with-bit : (m p q : ℕ) → bit (with_bit m p) q ≡ (eqb q p || bit m q)
unfolding with_bit
with-bit m p q = go (bit m p) refl
  where
    same : (t : Bool) → eqb q p ≡ t → bit m p ≡ true → bit m q ≡ (t || bit m q)
    same true h e = ap (bit m) (eqb-true q p h) ∙ e
    same false h e = refl

    go : (t : Bool) → bit m p ≡ t → bit (cond t m (m + 2 ^ p)) q ≡ (eqb q p || bit m q)
    go true e = same (eqb q p) refl e
    go false e = set-bit p q m e

pub no-bit : (q : ℕ) → bit 0 q ≡ false
no-bit zero = bit-zero 0
no-bit (suc q) = bit-suc 0 q ∙ no-bit q

-- and stays below 2 to as many bits as there are permissions
pub bits_below : (n p m : ℕ) → p < n → m < 2 ^ n → bit m p ≡ false → m + 2 ^ p < 2 ^ n
bits_below zero p m h k e = absurd (not-suc-le-zero h)
bits_below (suc n) zero m h k e =
    let x : 2 ^ suc n ≡ 2 * 2 ^ n = pow-succ' 2 n in
    let v = even m e in
    omega arith
bits_below (suc n) (suc p) m h k e =
    let x : 2 ^ suc n ≡ 2 * 2 ^ n = pow-succ' 2 n in
    let y : 2 ^ suc p ≡ 2 * 2 ^ p = pow-succ' 2 p in
    let ih : m / 2 < 2 ^ n → m / 2 + 2 ^ p < 2 ^ n = λ g. bits_below n p (m / 2) (omega arith) g (sym (bit-suc m p) ∙ e) in
    let j = ih (omega arith) in
    omega arith

pub with-below : (n p m : ℕ) → p < n → m < 2 ^ n → with_bit m p < 2 ^ n
unfolding with_bit
with-below n p m h k = go (bit m p) refl
  where
    go : (t : Bool) → bit m p ≡ t → cond t m (m + 2 ^ p) < 2 ^ n
    go true e = k
    go false e = bits_below n p m h k e

-- a bit of a mask below 2 ^ n is below n
pub bit_below : (n p m : ℕ) → m < 2 ^ n → bit m p ≡ true → p < n
bit_below zero p m h e =
    let z : m ≡ 0 = omega arith in
    let f = sym (ap (λ (x : ℕ). bit x p) z ∙ no-bit p) ∙ e in
    absurd (let t : ◌≡◌ {A = ℕ} 0 1 = cc in omega arith)
bit_below (suc n) zero m h e = omega arith
bit_below (suc n) (suc p) m h e =
    let x : 2 ^ suc n ≡ 2 * 2 ^ n = pow-succ' 2 n in
    let ih = bit_below n p (m / 2) (omega arith) (sym (bit-suc m p) ∙ e) in
    omega arith

-- ---- masks with the same bits are the same
same_low : (x y : ℕ) → x < 2 → y < 2 → eqb x 1 ≡ eqb y 1 → x ≡ y
same_low x y h g e = go (eqb y 1) refl
  where
    go : (t : Bool) → eqb y 1 ≡ t → x ≡ y
    go true q = let a = eqb-true x 1 (e ∙ q) in let b = eqb-true y 1 q in omega arith
    go false q = let a = eqb-false x 1 (e ∙ q) in let b = eqb-false y 1 q in omega arith

same-below : (n m k : ℕ) → m < 2 ^ n → k < 2 ^ n → ((q : ℕ) → bit m q ≡ bit k q) → m ≡ k
same-below zero m k h g e = omega arith
same-below (suc n) m k h g e =
    let x : 2 ^ suc n ≡ 2 * 2 ^ n = pow-succ' 2 n in
    let low : m % 2 ≡ k % 2 = same_low (m % 2) (k % 2) (omega arith) (omega arith) (sym (bit-zero m) ∙ e 0 ∙ bit-zero k) in
    let high : m / 2 ≡ k / 2 = same-below n (m / 2) (k / 2) (omega arith) (omega arith) (λ q. sym (bit-suc m q) ∙ e (suc q) ∙ bit-suc k q) in
    omega arith

below-pow : (m : ℕ) → m < 2 ^ m
below-pow zero = omega arith
below-pow (suc m) = let x : 2 ^ suc m ≡ 2 * 2 ^ m = pow-succ' 2 m in let ih = below-pow m in omega arith

pub same_bits : (m k : ℕ) → ((q : ℕ) → bit m q ≡ bit k q) → m ≡ k
same_bits m k e =
    let a = pow_mono {i = m} {j = m + k} (omega arith) in
    let b = pow_mono {i = k} {j = m + k} (omega arith) in
    let c = below-pow m in
    let d = below-pow k in
    same-below (m + k) m k (omega arith) (omega arith) e

-- ---- the code's arithmetic at 16 bits
pub small-pow : (p : ℕ) → p < 16 → 2 ^ p ≤ 32768
small-pow p h = pow_mono {i = p} {j = 15} (omega arith)

pub shifted : (p : ℕ) → p < 16 → 1 * 2 ^ p % 65536 ≡ 2 ^ p
shifted p h = let k = small-pow p h in omega arith

pub kept : (m p : ℕ) → m / 2 ^ p % 2 ≡ 1 → m ≡ with_bit m p
unfolding with_bit bit
kept m p e = sym (ap (λ (t : Bool). cond t m (m + 2 ^ p)) (eq-eqb (m / 2 ^ p % 2) 1 e))

pub grown : (m p : ℕ) → (m / 2 ^ p % 2 ≡ 1 → ⊥) → m + 2 ^ p ≡ with_bit m p
unfolding with_bit bit
grown m p e = sym (ap (λ (t : Bool). cond t m (m + 2 ^ p)) (ne_eqb (m / 2 ^ p % 2) 1 e))
