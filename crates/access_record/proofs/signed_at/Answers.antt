use Prim.Native.Nat.{ℕ, ◌+◌, ◌*◌}
use native.Mathlib.Omega.{arith}
use mathlib.Core.Path.{◌≡◌, ◌∙◌, ap}
use mathlib.Core.List.{List}
use lib.ListN.{get_or}
use Rattle.base_integers.specs.SignedLaws.{word_read}
use Rattle.access_record.specs.Record.{half_at, word_at}
use Rattle.access_record.proofs.signed_at.Goals as goal

-- eight bytes as one number and as two halves
halves : (l : List ℕ) (a : ℕ)
    → get_or l a 0 * 72057594037927936 + get_or l (a + 1) 0 * 281474976710656 + get_or l (a + 2) 0 * 1099511627776 + get_or l (a + 3) 0 * 4294967296
    + get_or l (a + 4) 0 * 16777216 + get_or l (a + 5) 0 * 65536 + get_or l (a + 6) 0 * 256 + get_or l (a + 7) 0
    ≡ word_at l a
unfolding word_at half_at
halves l a =
    let p5 : a + 4 + 1 ≡ a + 5 = omega arith in
    let p6 : a + 4 + 2 ≡ a + 6 = omega arith in
    let p7 : a + 4 + 3 ≡ a + 7 = omega arith in
    let b5 = ap (λ (i : ℕ). get_or l i 0) p5 in
    let b6 = ap (λ (i : ℕ). get_or l i 0) p6 in
    let b7 = ap (λ (i : ℕ). get_or l i 0) p7 in
    omega (arith, b5, b6, b7)

pub returns : goal.returns
returns c =
    word_read c.from_be_bytes-word.result c.from_be_bytes-word.type_inv c.signed.ensures
    ∙ c.from_be_bytes-word.ensures
    ∙ halves c.args.bytes.now c.args.a
