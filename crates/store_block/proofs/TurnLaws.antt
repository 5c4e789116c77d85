-- Laws of one turn of a loop.
use Rattle.std.specs.Prelude.{◌≡◌, List, ℕ, ◌+◌, ◌-◌, ◌*◌, ◌≤◌, ◌<◌, length, take, get_or, replicate}
use Rattle.std.specs.Prelude.{eqb}
use Rattle.std.proofs.Math.Path.{refl, sym, ap}
use Rattle.std.proofs.Common.{ap₂, ◌∙◌, add-one, take-suc}
use mathlib.Core.List.{List, [], ◌∷◌, ◌++◌}
use Prim.Native.Nat.{ℕ, ◌+◌, ◌-◌, ◌*◌, ◌≤◌, ◌<◌}
use native.Mathlib.Omega.{arith}
use Rattle.std.specs.Int.Bits.{bit_or, or_add_and}
use Rattle.std.proofs.lemmas.Nat.{and_le_l, and_le_r}
use Rattle.std.proofs.Math.ListN.{length, take, get_or, replicate}
use Rattle.std.proofs.lemmas.List.{get_or-replicate, replicate-append-replicate}
use Rattle.std.proofs.Math.Seq.{take-length, length-take-le}
use Rattle.store_block.specs.Decides.{Decides}
use Rattle.store_block.specs.DecidesLaws.{decides-by, eqb-decides}
use Rattle.std.specs.Prelude.{[], ◌∷◌, ◌++◌, set}
use Rattle.std.proofs.Common.{sym, ap, arith, length-take-le}
use Rattle.std.proofs.lemmas.List.{length-replicate}
use Rattle.store_block.specs.Over.{over}
use Rattle.store_block.specs.OverLaws.{over-more}
use Rattle.store_block.specs.Word.{word_at}
use Rattle.store_block.proofs.Turn.{Ored}

-- ---- zeros
pub zeros-more : (s : List ℕ) (i : ℕ) → i < length s → get_or s i 0 ≡ 0 → take i s ≡ replicate i 0 → take (i + 1) s ≡ replicate (i + 1) 0
zeros-more s i h z q =
    let t : take (i + 1) s ≡ take i s ++ (get_or s i 0 ∷ []) = rw add-one (take-suc s i 0 h) in
    t ∙ ap₂ (λ (x : List ℕ) (n : ℕ). x ++ (n ∷ [])) q z ∙ replicate-append-replicate i 1 0

pub zeros-at : (s : List ℕ) (i : ℕ) → i < length s → s ≡ replicate (length s) 0 → get_or s i 0 ≡ 0
zeros-at s i h q = ap (λ (x : List ℕ). get_or x i 0) q ∙ get_or-replicate (length s) i 0 0 h

-- ---- zeros by or
or_left : (x y : ℕ) → bit_or x y ≡ 0 → x ≡ 0
or_left x y e = let s = or_add_and x y in let a = and_le_r x y in omega arith

or_right : (x y : ℕ) → bit_or x y ≡ 0 → y ≡ 0
or_right x y e = let s = or_add_and x y in let a = and_le_l x y in omega arith

or-none : (x y : ℕ) → x ≡ 0 → y ≡ 0 → bit_or x y ≡ 0
or-none x y e f = let s = or_add_and x y in omega arith

pub ored-more : (s : List ℕ) (i o : ℕ) → i < length s → Ored s i o → Ored s (i + 1) (bit_or o (get_or s i 0))
ored-more s i o h g =
    record {
      zeros = λ e. zeros-more s i h (or_right o (get_or s i 0) e) (g.zeros (or_left o (get_or s i 0) e));
      none = λ z. or-none o (get_or s i 0) (g.none z) (zeros-at s i h z);
    }

pub ored-none : (s : List ℕ) → Ored s 0 0
ored-none s = record { zeros = λ e. refl; none = λ z. refl }

pub ored-done : (s : List ℕ) (i o : ℕ) → i ≡ length s → Ored s i o → Decides (eqb o 0) (s ≡ replicate (length s) 0)
ored-done s i o q g =
    decides-by
    (λ e. sym (take-length s) ∙ ap (λ (n : ℕ). take n s) (sym q) ∙ g.zeros e ∙ ap (λ (n : ℕ). replicate n 0) q)
    g.none (eqb-decides o 0)

-- one byte more of a list that is being copied
pub over-copy : (l : List ℕ) (a i : ℕ) (src : List ℕ) → i < length src → a + length src ≤ length l
    → set (over l a (take i src)) (a + i) (get_or src i 0) ≡ over l a (take (i + 1) src)
over-copy l a i src h k =
    let n : length (take i src) ≡ i = length-take-le i src (omega arith) in
    over-more l a i (get_or src i 0) (take i src) n (omega arith) ∙ ap (over l a) (sym (rw add-one (take-suc src i 0 h)))

-- one zero more
pub zero_more : (l m : List ℕ) (a j : ℕ) → a + j < length l → m ≡ over l a (replicate j 0) → set m (a + j) 0 ≡ over l a (replicate (j + 1) 0)
zero_more l m a j h q =
    ap (λ (x : List ℕ). set x (a + j) 0) q
    ∙ over-more l a j 0 (replicate j 0) (length-replicate j 0) h
    ∙ ap (over l a) (replicate-append-replicate j 1 0)

-- four bytes, as the code adds them up
pub word-four : (l : List ℕ) (i a b c d : ℕ) → a ≡ get_or l i 0 → b ≡ get_or l (i + 1) 0 → c ≡ get_or l (i + 2) 0 → d ≡ get_or l (i + 3) 0
    → a * 16777216 + b * 65536 + c * 256 + d ≡ word_at 4 l i
unfolding word_at
word-four l i a b c d p0 p1 p2 p3 =
    let q2 : get_or l (i + 1 + 1) 0 ≡ get_or l (i + 2) 0 = let z : i + 1 + 1 ≡ i + 2 = omega arith in ap (λ (m : ℕ). get_or l m 0) z in
    let q3 : get_or l (i + 1 + 1 + 1) 0 ≡ get_or l (i + 3) 0 = let z : i + 1 + 1 + 1 ≡ i + 3 = omega arith in ap (λ (m : ℕ). get_or l m 0) z in
    omega arith
