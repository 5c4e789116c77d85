-- How long the bytes of a tree are at most: five bytes for a tag, ten for a number or a length, four for a float.
use Rattle.std.specs.Prelude.{ℕ, zero, suc, ◌+◌, ◌*◌, ◌^◌, ◌≤◌, ◌<◌, ◌≡◌, refl, List, [], ◌∷◌, length}
use Rattle.std.proofs.Common.{arith, length-append}
use Rattle.std.proofs.Math.Option.{Option, none, some}
use Rattle.fields_wire.specs.Varint.{varint_bytes}
use Rattle.fields_wire.specs.VarintLaws.{varint-length, varint-ten}
use Rattle.fields_schema.specs.Tree.{Tree}
use Rattle.fields_encoding.specs.Encode.{tag, int_field, head, len_field, fix_field, encode, int_o, int_if, raw_if, fix_o, each, sub_o, each_sub, FitsAfter, ends, ints, raws, fixs, subs}
use Rattle.fields_schema.specs.declared.Kind.{Kind}
use Rattle.fields_encoding.specs.Cost.{cost, total, AtMost, CostMost}

pub tag-five : (n w : ℕ) → n < 2 ^ 29 → w < 8 → length (tag n w) ≤ 5
tag-five n w h l = varint-length 4 (8 * n + w) (omega arith)

pub int-length : (n v : ℕ) → n < 2 ^ 29 → v < 2 ^ 64 → length (int_field n v) ≤ 15
int-length n v h l = omega (arith, length-append (tag n 0) (varint_bytes v), tag-five n 0 h (omega arith), varint-ten v l)

pub head-length : (n l : ℕ) → n < 2 ^ 29 → l < 2 ^ 64 → length (head n l) ≤ 15
head-length n l h k = omega (arith, length-append (tag n 2) (varint_bytes l), tag-five n 2 h (omega arith), varint-ten l k)

pub len-length : (n : ℕ) (b : List ℕ) → n < 2 ^ 29 → length b < 2 ^ 64 → length (len_field n b) ≤ 15 + length b
len-length n b h l = omega (arith, length-append (head n (length b)) b, head-length n (length b) h l)

pub fix-length : (n : ℕ) (b : List ℕ) → n < 2 ^ 29 → length b ≡ 4 → length (fix_field n b) ≤ 9
fix-length n b h l = omega (arith, length-append (tag n 5) b, tag-five n 5 h (omega arith))

-- the bytes of a tree that fits are no more than its cost
pub encode-cost : {k : Kind} {ns : List ℕ} {t : Tree} → FitsAfter k ns t → length (encode t) ≤ cost t
unfolding encode
encode-cost ends = omega arith
encode-cost (ints {n = n} {v = v} {t = t} h l g r) =
    omega (arith, length-append (int_field n v) (encode t), int-length n v h.below l, encode-cost r)
encode-cost (raws {n = n} {b = b} {t = t} h l g r) =
    omega (arith, length-append (len_field n b) (encode t), len-length n b h.below l, encode-cost r)
encode-cost (fixs {n = n} {b = b} {t = t} h l g r) =
    omega (arith, length-append (fix_field n b) (encode t), fix-length n b h.below l, encode-cost r)
encode-cost (subs {n = n} {s = s} {t = t} k' h l g q r) =
    omega (arith, length-append (len_field n (encode s)) (encode t), len-length n (encode s) h.below l, encode-cost q, encode-cost r)

pub int_o-cost : (n : ℕ) (a : Option ℕ) (t : Tree) → cost (int_o n a t) ≤ 15 + cost t
unfolding int_o
int_o-cost n none t = omega arith
int_o-cost n (some v) t = omega arith

pub int_if-cost : (n a : ℕ) (t : Tree) → cost (int_if n a t) ≤ 15 + cost t
unfolding int_if
int_if-cost n zero t = omega arith
int_if-cost n (suc v) t = omega arith

pub raw_if-cost : (n : ℕ) (b : List ℕ) (t : Tree) → cost (raw_if n b t) ≤ 15 + length b + cost t
unfolding raw_if
raw_if-cost n [] t = omega arith
raw_if-cost n (b ∷ bs) t = omega arith

pub fix_o-cost : (n : ℕ) (a : Option (List ℕ)) (t : Tree) → cost (fix_o n a t) ≤ 9 + cost t
unfolding fix_o
fix_o-cost n none t = omega arith
fix_o-cost n (some b) t = omega arith

pub sub_o-cost : (n m : ℕ) (o : Option Tree) (t : Tree) → ((s : Tree) → o ≡ some s → cost s ≤ m) → cost (sub_o n o t) ≤ 15 + m + cost t
unfolding sub_o
sub_o-cost n m none t h = omega arith
sub_o-cost n m (some s) t h = let e = h s refl in omega arith

pub each_sub-cost : (n m : ℕ) (ss : List Tree) (t : Tree) → CostMost m ss → cost (each_sub n ss t) ≤ (15 + m) * length ss + cost t
unfolding each_sub
each_sub-cost n m [] t h = omega arith
each_sub-cost n m (s ∷ ss) t h = let e = each_sub-cost n m ss t h.1 in let c = h.0 in omega arith

pub each-cost : (n : ℕ) (bs : List (List ℕ)) (t : Tree) → cost (each n bs t) ≡ 15 * length bs + total bs + cost t
unfolding each
each-cost n [] t = omega arith
each-cost n (b ∷ bs) t = let e = each-cost n bs t in omega arith

pub total-most : (m : ℕ) (bs : List (List ℕ)) → AtMost m bs → total bs ≤ m * length bs
total-most m [] h = omega arith
total-most m (b ∷ bs) h = omega (arith, h.0, total-most m bs h.1)
