-- What is sent of a reading, by its bits. Assumes nothing.
use Rattle.std.specs.Prelude.{◌≡◌, refl, ℕ, ◌+◌, ◌-◌, ◌*◌, ◌^◌, ◌<◌, ltb, Bool, true, false, cond, Some, None}
use Rattle.std.proofs.Common.{sym, ap, ◌∙◌, arith}
use Rattle.std.proofs.Math.Option.{none, some}
use Rattle.log_binary32.specs.Binary32.{finite, negative, unsigned, units_of, rounded, less_thirty_two, minus32, times5, over9, to_celsius, portion}
use Rattle.log_binary32.specs.Celsius.{celsius_of, finite_of, sent_of, sent_bits}

-- the code's answer means the bits of a finite value
pub sent-finite : (b : ℕ) → sent_bits (sent_of b) ≡ finite_of b
unfolding sent_bits sent_of finite_of
sent-finite b = go (finite b)
  where
    go : (t : Bool) → sent_bits (cond t (Some b) None) ≡ cond t (some b) none
    go true = refl
    go false = refl

-- a pattern that is not finite stays as it is, at either scale
keep : (f g : ℕ → ℕ) (b : ℕ) → f b ≡ cond (finite b) (g b) b → finite b ≡ false → f b ≡ b
keep f g b e h = e ∙ ap (λ (t : Bool). cond t (g b) b) h

minus32-keeps : (b : ℕ) → finite b ≡ false → minus32 b ≡ b
unfolding minus32
minus32-keeps b = keep minus32 (λ (z : ℕ). less_thirty_two (negative z) (units_of (unsigned z))) b refl

times5-keeps : (b : ℕ) → finite b ≡ false → times5 b ≡ b
unfolding times5
times5-keeps b = keep times5 (λ (z : ℕ). rounded (negative z) (units_of (unsigned z) * 5) 1) b refl

over9-keeps : (b : ℕ) → finite b ≡ false → over9 b ≡ b
unfolding over9
over9-keeps b = keep over9 (λ (z : ℕ). rounded (negative z) (units_of (unsigned z)) 9) b refl

pub not-finite-stays : (f : Bool) (b : ℕ) → finite b ≡ false → celsius_of f b ≡ b
unfolding celsius_of
not-finite-stays false b h = refl
not-finite-stays true b h = ap (λ (z : ℕ). over9 (times5 z)) (minus32-keeps b h) ∙ ap over9 (times5-keeps b h) ∙ over9-keeps b h

pub omitted : (b : ℕ) → finite b ≡ false → None ≡ sent_of b
unfolding sent_of
omitted b h = sym (ap (λ (t : Bool). cond t (Some b) None) h)

-- ---- each is again a number of 32 bits
either : (t : Bool) (x y : ℕ) → x < 4294967296 → y < 4294967296 → cond t x y < 4294967296
either true x y h k = h
either false x y h k = k

rounded-word : (s : Bool) (num den : ℕ) → rounded s num den < 4294967296
unfolding rounded
rounded-word true num den = omega arith
rounded-word false num den = omega arith

pub portion-word : (used all : ℕ) → portion used all < 4294967296
unfolding portion
portion-word used all = rounded-word false (used * 2 ^ 149) all

less-word : (s : Bool) (u : ℕ) → less_thirty_two s u < 4294967296
unfolding less_thirty_two
less-word true u = rounded-word true (u + 2 ^ 154) 1
less-word false u = either (ltb u (2 ^ 154)) (rounded true (2 ^ 154 - u) 1) (rounded false (u - 2 ^ 154) 1) (rounded-word true (2 ^ 154 - u) 1) (rounded-word false (u - 2 ^ 154) 1)

celsius-steps : (b : ℕ) → b < 4294967296 → to_celsius b < 4294967296
unfolding minus32 times5 over9
celsius-steps b h =
    let m : minus32 b < 4294967296 = either (finite b) (less_thirty_two (negative b) (units_of (unsigned b))) b (less-word (negative b) (units_of (unsigned b))) h in
    let c = minus32 b in
    let t : times5 c < 4294967296 = either (finite c) (rounded (negative c) (units_of (unsigned c) * 5) 1) c (rounded-word (negative c) (units_of (unsigned c) * 5) 1) m in
    let d = times5 c in
    either (finite d) (rounded (negative d) (units_of (unsigned d)) 9) d (rounded-word (negative d) (units_of (unsigned d)) 9) t

pub celsius-word : (f : Bool) (b : ℕ) → b < 4294967296 → celsius_of f b < 4294967296
unfolding celsius_of
celsius-word f b h = either f (to_celsius b) b (celsius-steps b h) h
