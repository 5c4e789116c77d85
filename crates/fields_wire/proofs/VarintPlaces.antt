-- Laws on varints at a place of a slice.
use Prim.Native.Nat.{ℕ, zero, suc, ◌+◌, ◌*◌, ◌-◌, ◌%◌, ◌^◌, ◌≤◌, ◌<◌}
use Rattle.std.specs.Prelude.{max, Option, Some, None, IfSome}
use native.Mathlib.Omega.{arith}
use native.Mathlib.Nat.{pow-succ', pow-le-pow_right, mul-add, mul_assoc, mul-le-mul}
use native.Mathlib.Numerals.{add-one, sub-one}
use mathlib.Core.Path.{◌≡◌, refl, sym, ap, ap₂, ◌∙◌, subst}
use mathlib.Core.List.{List}
use mathlib.Core.Bool.{Bool, true, false, cond}
use lib.ListN.{length, drop, get_or, drop_of_length-le}
use lib.Seq.{drop-cons}
use lib.Dec.{ltb}
use borrow.Author.Tests.{lt-ltb, le-ltb}
use Rattle.fields_wire.specs.Reader.{Got, nothing, got}
use Rattle.fields_wire.specs.Wire.{end_below, on_top, varint_in, varint}
use Rattle.fields_wire.specs.VarintAnswer.{above, means_varint, EndsVarint}
use Rattle.fields_wire.specs.declared.varint.Varint.{Varint}

end-128 : (k : ℕ) → (k ≡ 0 → ⊥) → 128 ≡ end_below k
end-128 zero h = absurd (h refl)
end-128 (suc k) h = refl

pub at-end : (n : ℕ) (s : List ℕ) (at : ℕ) → length s ≤ at → nothing ≡ varint_in n (drop at s)
unfolding varint_in
at-end zero s at h = refl
at-end (suc n) s at h = rw (drop_of_length-le s h)

-- one byte of a varint
at_byte : (n : ℕ) (s : List ℕ) (at : ℕ) → at < length s → (n ≡ 0 → ⊥)
    → varint_in n (drop at s)
    ≡ cond (ltb (get_or s at 0) 128) (cond (ltb (get_or s at 0) (end_below (n - 1))) (got (get_or s at 0) (drop (at + 1) s)) nothing)
    (on_top (get_or s at 0) (varint_in (n - 1) (drop (at + 1) s)))
unfolding varint_in
at_byte zero s at h z = absurd (z refl)
at_byte (suc n) s at h z = rw (drop-cons s at 0 h, add-one at, sub-one (suc n))

module _ (n : ℕ) (s : List ℕ) (at : ℕ) (h : at < length s) (z : n ≡ 0 → ⊥) where
  pub ends-here : {v e : ℕ} → v ≡ get_or s at 0 → e ≡ end_below (n - 1) → get_or s at 0 < 128 → get_or s at 0 < e
      → got v (drop (at + 1) s) ≡ varint_in n (drop at s)
  ends-here p q b l =
      let l' : get_or s at 0 < end_below (n - 1) = omega (arith, q) in
      rw (at_byte n s at h z, lt-ltb _ _ b, lt-ltb _ _ l', p)

  pub goes_on : {w : ℕ} {o : Got ℕ} → w ≡ get_or s at 0 → 128 ≤ get_or s at 0 → o ≡ varint_in (n - 1) (drop (at + 1) s) → on_top w o ≡ varint_in n (drop at s)
  goes_on p b e = rw (at_byte n s at h z, le-ltb _ _ b, p, e)

-- a `?` that leaves
pub no-varint : (s : List ℕ) (at : ℕ) {o : Got ℕ} (r : Option Varint) → r ≡ None → nothing ≡ o → (means_varint s r ≡ o) × IfSome r (EndsVarint s at)
no-varint s at {o} r e h = subst (λ (r : Option Varint). (means_varint s r ≡ o) × IfSome r (EndsVarint s at)) (sym e) (h, tt)

-- a varint that lies after a later place lies after an earlier one
pub ends-within : (s : List ℕ) (a b : ℕ) (r : Option Varint) → a ≤ b → IfSome r (EndsVarint s b) → IfSome r (EndsVarint s a)
ends-within s a b (Some v) l h = (omega arith, h.1)
ends-within s a b None l h = tt

-- byte by byte: what the first `count` bytes hold, and what is left --------------------------
pub record Partial (s : List ℕ) (at value place count : ℕ) : Type 0 where
  pub there : at + count ≤ max at (length s)
  pub power : place ≡ 128 ^ count
  pub low : value < place
  pub rest : varint (drop at s) ≡ above value place (varint_in (10 - count) (drop (at + count) s))

above-one : (o : Got ℕ) → o ≡ above 0 1 o
above-one nothing = refl
above-one (got v r) = let e : v ≡ 0 + 1 * v = omega arith in ap (λ n. got n r) e

pub partial-start : (s : List ℕ) (at : ℕ) → Partial s at 0 1 0
partial-start s at =
    let e : at ≡ at + 0 = omega arith in
    record { there = omega arith; power = refl; low = omega arith; rest = above-one (varint (drop at s)) ∙ ap (λ n. above 0 1 (varint_in 10 (drop n s))) e }

above_more : (v p b : ℕ) (o : Got ℕ) → above v p (on_top b o) ≡ above (v + p * (b % 128)) (p * 128) o
above_more v p b nothing = refl
above_more v p b (got w r) =
    let e : p * (b % 128 + 128 * w) ≡ p * (b % 128) + p * (128 * w) = mul-add p (b % 128) (128 * w) in
    let f : p * 128 * w ≡ p * (128 * w) = mul_assoc p 128 w in
    let q : v + p * (b % 128 + 128 * w) ≡ v + p * (b % 128) + p * 128 * w = omega arith in
    ap (λ n. got n r) q

module _ (s : List ℕ) (at value place count : ℕ) (g : Partial s at value place count) (l : count < 9) where
  pub place-small : place ≤ 128 ^ 8
  place-small = let p : 128 ^ count ≤ 128 ^ 8 = pow-le-pow_right (omega arith) {j = 8} (omega arith) in omega (arith, g.power)

  pub partial-cut : length s ≤ at + count → nothing ≡ varint (drop at s)
  partial-cut h = ap (above value place) (at-end (10 - count) s (at + count) h) ∙ sym g.rest

  not-zero : 10 - count ≡ 0 → ⊥
  not-zero e = omega arith

  not_last : 10 - count - 1 ≡ 0 → ⊥
  not_last e = omega arith

  pub product_small : (b : ℕ) → b < 128 → place * b ≤ 128 ^ 8 * 127
  product_small b h = let q : b ≤ 127 = omega arith in mul-le-mul place-small q

  pub product-low : (b : ℕ) → b < 128 → place * b ≤ place * 127
  product-low b h =
      let p : place ≤ place = omega arith in
      let q : b ≤ 127 = omega arith in
      mul-le-mul p q

  module _ (h : at + count < length s) {w : ℕ} (p : w ≡ get_or s (at + count) 0) where
    pub partial-last : get_or s (at + count) 0 < 128 → got (value + place * w) (drop (at + count + 1) s) ≡ varint (drop at s)
    partial-last b =
        ap (above value place) (ends-here (10 - count) s (at + count) h not-zero {v = w} {e = 128} p (end-128 (10 - count - 1) not_last) b b) ∙ sym g.rest

    pub partial-more : 128 ≤ get_or s (at + count) 0 → Partial s at (value + place * (w % 128)) (place * 128) (count + 1)
    partial-more b =
        let q : 10 - count - 1 ≡ 10 - (count + 1) = omega arith in
        let j : at + count + 1 ≡ at + (count + 1) = omega arith in
        let z = product-low (w % 128) (omega arith) in
        let x : 128 ^ suc count ≡ 128 * 128 ^ count = pow-succ' 128 count in
        let y : 128 ^ (count + 1) ≡ 128 ^ suc count = ap (λ n. 128 ^ n) (add-one count) in
        record {
          there = omega arith;
          power = omega (arith, g.power);
          low = omega (arith, g.low);
          rest = g.rest ∙ ap (above value place) (sym (goes_on (10 - count) s (at + count) h not-zero {w = w} p b refl))
              ∙ above_more value place w (varint_in (10 - count - 1) (drop (at + count + 1) s))
              ∙ ap₂ (λ n k. above (value + place * (w % 128)) (place * 128) (varint_in n (drop k s))) q j;
        }

pub all-nine : (s : List ℕ) (at value place count : ℕ) → Partial s at value place count → 9 ≤ count → count ≤ 9 → Partial s at value place 9
all-nine s at value place count g h l = let e : count ≡ 9 = omega arith in subst (λ n. Partial s at value place n) e g

module _ (s : List ℕ) (at value place : ℕ) (g : Partial s at value place 9) where
  pub nine-low : value < 2 ^ 63
  nine-low = omega (arith, g.power, g.low)

  pub partial-tenth : {o : Got ℕ} → o ≡ above value (2 ^ 63) (varint_in 1 (drop (at + 9) s)) → o ≡ varint (drop at s)
  partial-tenth e = e ∙ ap (λ p. above value p (varint_in 1 (drop (at + 9) s))) (sym g.power) ∙ sym g.rest

-- the tenth byte
pub tenth-cut : (s : List ℕ) (at low : ℕ) → length s ≤ at → nothing ≡ above low (2 ^ 63) (varint_in 1 (drop at s))
tenth-cut s at low h = ap (above low (2 ^ 63)) (at-end 1 s at h)

pub tenth-is : (s : List ℕ) (at low : ℕ) {w : ℕ} → at < length s → w ≡ get_or s at 0 → get_or s at 0 < 2
    → got (low + 9223372036854775808 * w) (drop (at + 1) s) ≡ above low (2 ^ 63) (varint_in 1 (drop at s))
tenth-is s at low {w} h p b = ap (above low (2 ^ 63)) (ends-here 1 s at h (λ e. omega arith) {v = w} {e = 2} p refl (omega arith) b)

pub tenth-wrong : (s : List ℕ) (at low : ℕ) → at < length s → 2 ≤ get_or s at 0 → nothing ≡ above low (2 ^ 63) (varint_in 1 (drop at s))
unfolding varint_in
tenth-wrong s at low h b = ap (above low (2 ^ 63)) (go (ltb (get_or s at 0) 128) ∙ sym (rw (le-ltb (get_or s at 0) 2 b) at (at_byte 1 s at h (λ e. omega arith))))
  where
    go : (t : Bool) → nothing ≡ cond t nothing (on_top (get_or s at 0) nothing)
    go true = refl
    go false = refl

-- one byte
pub one_byte : (s : List ℕ) (at : ℕ) {w : ℕ} → at < length s → w ≡ get_or s at 0 → get_or s at 0 < 128 → got w (drop (at + 1) s) ≡ varint (drop at s)
one_byte s at {w} h p b = ends-here 10 s at h (λ e. omega arith) {v = w} {e = 128} p refl b b
