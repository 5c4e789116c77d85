-- The steps of a varint that is written, and the room for it.
use Rattle.std.specs.Prelude.{ℕ, zero, suc, ◌+◌, ◌-◌, ◌*◌, ◌/◌, ◌%◌, ◌^◌, ◌≤◌, ◌<◌, ◌≡◌, refl, List, [], ◌∷◌, Bool, true, false, cond, ltb, length, drop, set, get_or, max}
use Rattle.std.proofs.Common.{arith, add-one, sym, ap, ◌∙◌, subst, length-drop, drop-cons, le_antisymm, pow_mono}
use Rattle.std.proofs.Math.Nat.{one-le-pow, pow-succ'}
use Rattle.std.proofs.Math.Pow.{pow-add}
use Rattle.fields_wire.specs.Varint.{varint_up, varint_bytes}
use Rattle.fields_wire.specs.VarintLaws.{varint-one, varint-more, varint-ten, varint-length, varint-long}
use Rattle.fields_encoding.specs.Encode.{tag}
use Rattle.fields_encoding.proofs.CostLaws.{tag-five}
use Rattle.fields_write_bytes.specs.Pushed.{Pushed}
use Rattle.fields_write_bytes.proofs.PushedLaws.{again, copying-none, copying-next, copying-all}
use Rattle.fields_write_bytes.specs.Copying.{Copying}
use Rattle.fields_write_varint.specs.Groups.{Grouping}

pub one-byte : (v : ℕ) → 1 ≤ length (varint_bytes v)
unfolding varint_up
one-byte v = go (ltb v 128)
  where
    go : (t : Bool) → 1 ≤ length (cond t (v ∷ []) ((v % 128 + 128) ∷ varint_up 8 (v / 128)))
    go true = omega arith
    go false = omega arith

pub pushed-one : {r at : ℕ} {l m : List ℕ} (v : ℕ) → v < 128 → Pushed r at (v ∷ []) l m → Pushed r at (varint_bytes v) l m
pushed-one v h w = again (sym (varint-one v h)) w

pub more-length : (v : ℕ) → 128 ≤ v → v < 2 ^ 64 → length (varint_bytes v) ≡ suc (length (varint_bytes (v / 128)))
more-length v h l = ap length (varint-more v h l)

-- the next byte of a list
next-byte : (l : List ℕ) (i b : ℕ) (r : List ℕ) → drop i l ≡ b ∷ r → (i < length l) × (get_or l i 0 ≡ b) × (drop (i + 1) l ≡ r)
next-byte l i b r e =
    let h : i < length l = omega (arith, length-drop i l, ap length e) in
    let d : get_or l i 0 ∷ drop (suc i) l ≡ b ∷ r = sym (drop-cons l i 0 h) ∙ e in
    let x : get_or l i 0 ≡ b = cc in
    let y : drop (suc i) l ≡ r = cc in
    (h, x, ap (λ j. drop j l) (add-one i) ∙ y)

pub group-none : {p at v : ℕ} {l : List ℕ} → p + length (varint_bytes v) ≡ at → at ≤ length l → v < 2 ^ 64 → Grouping at v l p 0 v l
group-none h k r = record { copying = copying-none h k; left = refl; range = r }

-- how many bytes are left says whether the next one is the last
left-long : {p i at v rest : ℕ} {l m : List ℕ} → Grouping at v l p i rest m → length (varint_bytes rest) ≡ at - (p + i)
left-long {p} {i} {at} {v} {rest} w =
    let f = w.copying.from in
    omega (arith, length-drop i (varint_bytes v), ap length w.left)

more-left : (rest : ℕ) → 2 ≤ length (varint_bytes rest) → 128 ≤ rest
more-left rest h = let one : rest < 128 → length (varint_bytes rest) ≡ 1 = λ s. ap length (varint-one rest s) in grind arith

one-left : (rest : ℕ) → length (varint_bytes rest) ≤ 1 → rest < 128
one-left rest h = let more : 128 ≤ rest → 1 < length (varint_bytes rest) = varint-long 1 rest (omega arith) in grind arith

pub group-next : {p k at v rest : ℕ} {l m : List ℕ} → Grouping at v l p (k - p) rest m → p ≤ k → k + 1 < at
    → Grouping at v l p (k + 1 - p) (rest / 128) (set m k (rest % 128 + 128))
group-next {p} {k} {at} {v} {rest} {l} {m} w o g =
    let h : 128 ≤ rest = more-left rest (omega (arith, left-long w)) in
    let n = next-byte (varint_bytes v) (k - p) (rest % 128 + 128) (varint_bytes (rest / 128)) (w.left ∙ varint-more rest h w.range) in
    let r = w.range in
    let e : p + (k - p) ≡ k = omega arith in
    let f : k - p + 1 ≡ k + 1 - p = omega arith in
    let step : Grouping at v l p (k - p + 1) (rest / 128) (set m (p + (k - p)) (rest % 128 + 128)) = record {
      copying = subst (λ b. Copying at (varint_bytes v) l p (k - p + 1) (set m (p + (k - p)) b)) n.1 (copying-next w.copying n.0);
      left = n.2;
      range = omega arith;
    } in
    rw (e, f) at step

pub group-small : {p k at v rest : ℕ} {l m : List ℕ} → Grouping at v l p (k - p) rest m → p ≤ k → at ≤ k + 1 → rest < 128
group-small {rest = rest} w o g = one-left rest (omega (arith, left-long w))

pub group-last : {p k at v rest : ℕ} {l m : List ℕ} → Grouping at v l p (k - p) rest m → p ≤ k → k + 1 ≡ at → Pushed p at (varint_bytes v) l (set m (at - 1) rest)
group-last {p} {k} {at} {v} {rest} {l} {m} w o g =
    let h : rest < 128 = group-small w o (omega arith) in
    let n = next-byte (varint_bytes v) (k - p) rest [] (w.left ∙ varint-one rest h) in
    let c = subst (λ b. Copying at (varint_bytes v) l p (k - p + 1) (set m (p + (k - p)) b)) n.1 (copying-next w.copying n.0) in
    let e : p + (k - p) ≡ at - 1 = omega arith in
    rw e at (copying-all c (omega (arith, length-drop (k - p + 1) (varint_bytes v), ap length n.2)))

-- room for a number, and for a tag in front of it
pub varint-room : (v at : ℕ) → v < 2 ^ 64 → 10 ≤ at → length (varint_bytes v) ≤ at
varint-room v at h r = omega (arith, varint-ten v h)

pub varint-from : {r at : ℕ} {l m : List ℕ} (v : ℕ) → v < 2 ^ 64 → Pushed r at (varint_bytes v) l m → at ≤ r + 10
varint-from v h w = let f = w.from in omega (arith, varint-ten v h)

pub tag-room : (t at : ℕ) → t < 2 ^ 35 → 5 ≤ at → length (varint_bytes t) ≤ at
tag-room t at h r = omega (arith, varint-length 4 t (omega arith))

pub tag-from : {r at : ℕ} {l m : List ℕ} (n w : ℕ) → n < 2 ^ 29 → w < 8 → Pushed r at (tag n w) l m → at ≤ r + 5
tag-from n w h k p = let f = p.from in omega (arith, tag-five n w h k)

-- a byte for each seven bits: the length, by the highest bit of the number, or of 1 for 0
sevens : (n : ℕ) → 128 ^ n ≡ 2 ^ (7 * n)
sevens zero = refl
sevens (suc n) =
    let e : 7 * suc n ≡ 7 * n + 7 = omega arith in
    rw (e, pow-add) (omega (arith, sevens n))

pub length-by-bits : (v m k : ℕ) → m ≡ max v 1 → 2 ^ k ≤ m → m < 2 * 2 ^ k → k < 64 → k / 7 + 1 ≡ length (varint_bytes v)
length-by-bits v m k e lo hi h =
    let low : 2 ^ (7 * (k / 7)) ≤ 2 ^ k = pow_mono (omega arith) in
    let high : 2 ^ suc k ≤ 2 ^ (7 * suc (k / 7)) = pow_mono (omega arith) in
    let least : 128 ^ (k / 7) ≤ m = omega (arith, sevens (k / 7)) in
    let most : v < 128 ^ suc (k / 7) = omega (arith, sevens (suc (k / 7)), pow-succ' 2 k) in
    le_antisymm (omega (arith, at-least (k / 7) (omega arith) least)) (omega (arith, varint-length (k / 7) v most))
  where
    at-least : (n : ℕ) → n ≤ 9 → 128 ^ n ≤ m → n < length (varint_bytes v)
    at-least zero g l = one-byte v
    at-least (suc n) g l = varint-long (suc n) v g (let p = one-le-pow n 128 (omega arith) in omega arith)
