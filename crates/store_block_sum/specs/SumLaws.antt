-- The sum of a block, as the code makes it: eight rows of 64 bytes, column by column.
use Rattle.std.specs.Prelude.{◌≡◌, refl, List, [], ◌∷◌, ◌++◌, ℕ, suc, ◌+◌, ◌*◌, ◌≤◌, ◌<◌, length, take, drop, get_or, set}
use Rattle.std.proofs.Common.{sym, ap, ap₂, ◌∙◌, arith, length-set, length-drop, take-append-drop, below_more, take-suc, length-take-le, get_or-drop, get_or-set_same, get_or-set_other, add-one, add_assoc, add-mul, add-zero, zero-add, mul-le-mul, mul-add}
use Rattle.std.proofs.Math.Seq.{take-append-add}
use Rattle.store_block.specs.Block.{sum_from}
use Rattle.store_block_sum.specs.Sum.{row, column_sum, column_rows, eight, last_four, Column, Columns}

-- one byte more
sum-snoc : (p : ℕ) (xs : List ℕ) (x : ℕ) → sum_from p (xs ++ (x ∷ [])) ≡ sum_from p xs + x * (p + length xs + 1)
unfolding sum_from
sum-snoc p [] x = let e : p + 0 + 1 ≡ p + 1 = omega arith in let z : x * (p + 1) + 0 ≡ 0 + x * (p + 1) = omega arith in z ∙ ap (λ (n : ℕ). 0 + x * n) (sym e)
sum-snoc p (y ∷ ys) x =
    let ih = sum-snoc (p + 1) ys x in
    let e : p + 1 + length ys + 1 ≡ p + suc (length ys) + 1 = omega arith in
    ap (λ (n : ℕ). y * (p + 1) + n) (ih ∙ ap (λ (n : ℕ). sum_from (p + 1) ys + x * n) e)
    ∙ sym (add_assoc (y * (p + 1)) (sum_from (p + 1) ys) (x * (p + suc (length ys) + 1)))

sum-append : (p : ℕ) (xs ys : List ℕ) → sum_from p (xs ++ ys) ≡ sum_from p xs + sum_from (p + length xs) ys
unfolding sum_from
sum-append p [] ys = let e : p + 0 ≡ p = omega arith in let z : sum_from p ys ≡ 0 + sum_from p ys = omega arith in z ∙ ap (λ (n : ℕ). 0 + sum_from n ys) (sym e)
sum-append p (x ∷ xs) ys =
    let ih = sum-append (p + 1) xs ys in
    let e : p + 1 + length xs ≡ p + suc (length xs) = omega arith in
    ap (λ (n : ℕ). x * (p + 1) + n) (ih ∙ ap (λ (n : ℕ). sum_from (p + 1) xs + sum_from n ys) e)
    ∙ sym (add_assoc (x * (p + 1)) (sum_from (p + 1) xs) (sum_from (p + suc (length xs)) ys))

-- ---- a row: the n bytes from place p on

row-none : (b : List ℕ) (p : ℕ) → row b p 0 ≡ 0
unfolding row sum_from
row-none b p = refl

row_more : (b : List ℕ) (p k : ℕ) → k + p < length b → row b p (k + 1) ≡ row b p k + (get_or b (k + p) 0 * p + get_or b (k + p) 0 * (k + 1))
unfolding row
row_more b p k h =
    let d : List ℕ = drop p b in
    let ld = length-drop p b in
    let n : p + length (take k d) + 1 ≡ p + (k + 1) = let l = length-take-le k d (omega arith) in omega arith in
    let c : p + k ≡ k + p = omega arith in
    let g : get_or d k 0 ≡ get_or b (k + p) 0 = get_or-drop p b k 0 ∙ ap (λ (m : ℕ). get_or b m 0) c in
    ap (sum_from p) (rw add-one (take-suc d k 0 (omega arith))) ∙ sum-snoc p (take k d) (get_or d k 0)
    ∙ ap₂ (λ (a m : ℕ). sum_from p (take k d) + a * m) g n
    ∙ ap (λ (m : ℕ). sum_from p (take k d) + m) (mul-add (get_or b (k + p) 0) p (k + 1))

-- rows one after the other, up to the byte q
row-after : (b : List ℕ) (p n q : ℕ) → q ≡ p + n → q ≤ length b → sum_from 0 (take q b) ≡ sum_from 0 (take p b) + row b p n
unfolding row
row-after b p n q v h =
    let k : length (take p b) ≡ p = length-take-le p b (omega arith) in
    let e : take (p + n) b ≡ take p b ++ take n (drop p b) =
    ap (take (p + n)) (sym (take-append-drop p b)) ∙ ap (λ (m : ℕ). take (m + n) (take p b ++ drop p b)) (sym k)
    ∙ take-append-add (take p b) (drop p b) n in
    ap (λ (m : ℕ). sum_from 0 (take m b)) v ∙ ap (sum_from 0) e ∙ sum-append 0 (take p b) (take n (drop p b))
    ∙ ap (λ (m : ℕ). sum_from 0 (take p b) + sum_from m (take n (drop p b))) (zero-add (length (take p b)) ∙ k)

-- one byte more, at place i
byte-after : (b : List ℕ) (i j : ℕ) → j ≡ i + 1 → i < length b → sum_from 0 (take j b) ≡ sum_from 0 (take i b) + get_or b i 0 * j
byte-after b i j v h =
    let e : 0 + length (take i b) + 1 ≡ j = let l = length-take-le i b (omega arith) in omega arith in
    ap (λ (m : ℕ). sum_from 0 (take m b)) v ∙ ap (sum_from 0) (rw add-one (take-suc b i 0 h)) ∙ sum-snoc 0 (take i b) (get_or b i 0)
    ∙ ap (λ (n : ℕ). sum_from 0 (take i b) + get_or b i 0 * n) e

-- ---- a column: the byte k of each row

pub eight-none : (b : List ℕ) → eight b 0 ≡ 0
unfolding eight
eight-none b = omega (arith, row-none b 448, row-none b 384, row-none b 320, row-none b 256, row-none b 192, row-none b 128, row-none b 64, row-none b 0)

column-times : (b : List ℕ) (k m : ℕ) → column_sum b k * m ≡ get_or b (k + 448) 0 * m + get_or b (k + 384) 0 * m + get_or b (k + 320) 0 * m + get_or b (k + 256) 0 * m + get_or b (k + 192) 0 * m + get_or b (k + 128) 0 * m + get_or b (k + 64) 0 * m + get_or b k 0 * m
unfolding column_sum
column-times b k m = simp add-mul

pub eight-more : (b : List ℕ) (k s : ℕ) → k < 64 → 512 ≤ length b → s ≡ eight b k → s + (column_sum b k * (k + 1) + column_rows b k * 64) ≡ eight b (k + 1)
unfolding eight column_rows
eight-more b k s h l v =
    let r7 = row_more b 448 k (omega arith) in
    let r6 = row_more b 384 k (omega arith) in
    let r5 = row_more b 320 k (omega arith) in
    let r4 = row_more b 256 k (omega arith) in
    let r3 = row_more b 192 k (omega arith) in
    let r2 = row_more b 128 k (omega arith) in
    let r1 = row_more b 64 k (omega arith) in
    let r0 : row b 0 (k + 1) ≡ row b 0 k + (get_or b k 0 * 0 + get_or b k 0 * (k + 1)) = rw add-zero at (row_more b 0 k (omega arith)) in
    let d = column-times b k (k + 1) in
    omega arith

pub eight-done : (b : List ℕ) → 512 ≤ length b → eight b 64 ≡ sum_from 0 (take 508 b) + last_four b
unfolding eight last_four sum_from
eight-done b h =
    let r7 = row-after b 448 64 512 refl (omega arith) in
    let r6 = row-after b 384 64 448 refl (omega arith) in
    let r5 = row-after b 320 64 384 refl (omega arith) in
    let r4 = row-after b 256 64 320 refl (omega arith) in
    let r3 = row-after b 192 64 256 refl (omega arith) in
    let r2 = row-after b 128 64 192 refl (omega arith) in
    let r1 = row-after b 64 64 128 refl (omega arith) in
    let r0 = row-after b 0 64 64 refl (omega arith) in
    let z : sum_from 0 (take 0 b) ≡ 0 = refl in
    let e0 = byte-after b 508 509 refl (omega arith) in
    let e1 = byte-after b 509 510 refl (omega arith) in
    let e2 = byte-after b 510 511 refl (omega arith) in
    let e3 = byte-after b 511 512 refl (omega arith) in
    omega arith

-- ---- the columns in an array of 128 numbers

same : (b : List ℕ) (k x y x' y' : ℕ) → x' ≡ x → y' ≡ y → Column b k x y → Column b k x' y'
same b k x y x' y' p q w = record { all_is = p ∙ w.all_is; rows_is = q ∙ w.rows_is; all_most = omega arith; rows_most = omega arith }

pub columns-more : (b c : List ℕ) (k x y : ℕ) → k < 64 → Columns b k c → Column b k x y → Columns b (k + 1) (set (set c k x) (k + 64) y)
columns-more b c k x y h w v =
    let l = w.long in
    let d : List ℕ = set c k x in
    let l1 : length d ≡ 128 = length-set c k x ∙ l in
    record {
      long = length-set d (k + 64) y ∙ l1;
      each =
          below_more (λ (j : ℕ). Column b j (get_or (set d (k + 64) y) j 0) (get_or (set d (k + 64) y) (j + 64) 0)) k
          (λ j g. same b j (get_or c j 0) (get_or c (j + 64) 0) _ _
          (get_or-set_other d (k + 64) j y 0 (λ e. omega arith) ∙ get_or-set_other c k j x 0 (λ e. omega arith))
          (get_or-set_other d (k + 64) (j + 64) y 0 (λ e. omega arith) ∙ get_or-set_other c k (j + 64) x 0 (λ e. omega arith)) (w.each j g))
          (same b k x y _ _
          (get_or-set_other d (k + 64) k y 0 (λ e. omega arith) ∙ get_or-set_same c k x 0 (omega arith))
          (get_or-set_same d (k + 64) y 0 (omega arith)) v);
    }

-- what a column adds
pub columns-add : (b c : List ℕ) (k s : ℕ) → k < 64 → 512 ≤ length b → Columns b 64 c → s ≡ eight b k → s + (get_or c k 0 * (k + 1) + get_or c (k + 64) 0 * 64) ≡ eight b (k + 1)
columns-add b c k s h l w v = rw ((w.each k h).all_is, (w.each k h).rows_is) (eight-more b k s h l v)

pub product : (x k : ℕ) → x ≤ 2040 → k < 64 → x * (k + 1) ≤ 130560
product x k h j = mul-le-mul {n₁ = x} {m₁ = k + 1} {n₂ = 2040} {m₂ = 64} h (omega arith)
