-- Word to number and back are inverse.
use Rattle.std.specs.Prelude.{ℕ, suc, ◌-◌, ◌^◌, ◌<◌, ◌≡◌, refl, ℤ, pos, negsuc}
use Rattle.std.proofs.Common.{ap, ◌∙◌, SFits, to_z-of_z}
use Rattle.std.specs.Int.Signed.{mag}
use Rattle.std.specs.Int.{w64}
use Rattle.std.proofs.Math.Facts.{of_z-to_z}
use Rattle.base_integers.specs.Signed.{signed_of, word_of}

pub word-signed : (v : ℕ) → v < 2 ^ 64 → word_of (signed_of v) ≡ v
word-signed v h = of_z-to_z {w = w64} (record { fits = h })

-- of a number from -2^63 to 2^63 - 1
pub signed_word : (x : ℤ) → SFits w64 x → signed_of (word_of x) ≡ x
signed_word x h = to_z-of_z {w = w64} h

-- code keeps a number by its word: what it hands on is the number that the word stands for
pub word_kept : (x : ℤ) → mag x < 2 ^ 63 → word_of (signed_of (word_of x)) ≡ word_of x
word_kept x h = ap word_of (signed_word x (record { sfits = h }))

-- likewise of a number that was read off a word
pub word_read : (v : ℕ) {x : ℤ} → v < 2 ^ 64 → x ≡ signed_of v → word_of (signed_of (word_of x)) ≡ v
word_read v h e = ap (λ (x : ℤ). word_of (signed_of (word_of x))) e ∙ ap (λ (n : ℕ). word_of (signed_of n)) (word-signed v h) ∙ word-signed v h

pub word-pos : (n : ℕ) → word_of (pos n) ≡ n
word-pos n = refl

pub word-negative : (n : ℕ) → word_of (negsuc n) ≡ 2 ^ 64 - suc n
word-negative n = refl
