use Prim.Native.Nat.{ℕ, ◌/◌, ◌%◌, ◌<◌}
use native.Mathlib.Omega.{arith}
use mathlib.Core.Path.{◌≡◌, ap, ◌∙◌}
use mathlib.Core.List.{[], ◌∷◌}
use Rattle.std.specs.Int.{w64, to_be_bytes}
use Rattle.std.proofs.Math.Facts.{Fits-of_z}
use Rattle.base_integers.specs.Signed.{word_of}
use Rattle.base_integers.specs.SignedLaws.{word_kept}
use Rattle.base_definitions.specs.BigEndian.{be32}
use Rattle.access_record.specs.Record.{word_bytes}
use Rattle.access_record_bytes.specs.WroteLaws.{renamed}
use Rattle.access_record_bytes.proofs.put_signed.Goals as goal

-- a word's bytes, the highest first
highest-first : (w : ℕ) → w < 18446744073709551616 → to_be_bytes w64 w ≡ word_bytes w
unfolding word_bytes be32
highest-first w h =
    let h0 : w / 72057594037927936 % 256 ≡ w / 4294967296 / 16777216 = omega arith in
    let h1 : w / 281474976710656 % 256 ≡ w / 4294967296 / 65536 % 256 = omega arith in
    let h2 : w / 1099511627776 % 256 ≡ w / 4294967296 / 256 % 256 = omega arith in
    let l0 : w / 16777216 % 256 ≡ w % 4294967296 / 16777216 = omega arith in
    let l1 : w / 65536 % 256 ≡ w % 4294967296 / 65536 % 256 = omega arith in
    let l2 : w / 256 % 256 ≡ w % 4294967296 / 256 % 256 = omega arith in
    let l3 : w % 256 ≡ w % 4294967296 % 256 = omega arith in
    λ i. h0 i ∷ h1 i ∷ h2 i ∷ (w / 4294967296 % 256) ∷ l0 i ∷ l1 i ∷ l2 i ∷ l3 i ∷ []

pub returns : goal.returns
returns c =
    let x = c.args.x in
    let k = word_kept x c.ranges.x.sfits in
    let in_word = Fits-of_z c.ranges.x in
    renamed (c.to_be_bytes.ensures ∙ ap (λ (w : ℕ). to_be_bytes w64 w) k ∙ highest-first (word_of x) in_word.fits) c.put_bytes.ensures
