-- A search by halving: what a comparison with the key at a place says of where a key stands.
use Rattle.std.specs.Prelude.{◌≡◌, length, get_or, Result, Ok, Err}
use Rattle.std.proofs.Math.Path.{sym, ap, subst}
use Rattle.std.proofs.Common.{◌∙◌, not-suc-le-zero, le_of_suc-le-suc}
use mathlib.Core.List.{List, [], ◌∷◌}
use Prim.Native.Nat.{ℕ, zero, suc, ◌+◌, ◌≤◌, ◌<◌}
use native.Mathlib.Omega.{arith}
use Rattle.std.specs.declared.cmp.Ordering.{Ordering}
use Rattle.std.specs.declared.cmp.Ordering.TheVariants.{Less, Equal, Greater}
use Rattle.store_block.specs.Order.{cmp, Below}
use Rattle.store_block.specs.OrderLaws.{cmp-refl, cmp-equal, cmp-flip, below-trans}
use Rattle.std.specs.Ordering.{ordering_reverse}
use Rattle.store_block.specs.Entry.{Entry, no_entry}
use Rattle.store_layout.specs.Store.{Above, Sorted}
use Rattle.store_layout.specs.Entries.{by_order, find_from, find_in, place_of, past_of}
use Rattle.store_layout.proofs.CheckLaws.{less-not-equal}
use Rattle.store_layout.proofs.EntriesLaws.{find-up_to, up_to-most}
use Rattle.store_order_table.specs.Halving.{Between}

-- what a search over all finds
pub between-all : (k : List ℕ) (es : List Entry) → Sorted es → Between (find_in k es) 0 (length es)
unfolding find_in
between-all k es s = let a = find-up_to 0 k es s in let b = up_to-most k es in record { low = omega arith; high = omega arith }

pub gap-left : (f : Result ℕ ℕ) (lo hi : ℕ) → hi ≤ lo → Between f lo hi → Err lo ≡ f
unfolding place_of past_of
gap-left (Ok i) lo hi h b = let x = b.low in let y = b.high in absurd (omega arith)
gap-left (Err i) lo hi h b = let x = b.low in let y = b.high in ap Err (let z : lo ≡ i = omega arith in z)

-- every later key is above one that is below the first
above-all : (k : List ℕ) (es : List Entry) (m : ℕ) → Above k es → Sorted es → m < length es → Below k (get_or es m no_entry).key
above-all k [] m a s h = absurd (not-suc-le-zero h)
above-all k (x ∷ xs) zero a s h = a
above-all k (x ∷ xs) (suc m) a s h = below-trans k x.key (get_or xs m no_entry).key a (above-all x.key xs m s.0 s.1 (le_of_suc-le-suc h))

-- no key stands twice
pub sorted_apart : (es : List Entry) (i m : ℕ) → Sorted es → i < m → m < length es → (get_or es i no_entry).key ≡ (get_or es m no_entry).key → ⊥
sorted_apart [] i m s h g e = not-suc-le-zero g
sorted_apart (x ∷ xs) i zero s h g e = not-suc-le-zero h
sorted_apart (x ∷ xs) zero (suc m) s h g e =
    let b : Below x.key (get_or xs m no_entry).key = above-all x.key xs m s.0 s.1 (le_of_suc-le-suc g) in
    let q : cmp x.key (get_or xs m no_entry).key ≡ Equal = ap (cmp x.key) (sym e) ∙ cmp-refl x.key in
    less-not-equal _ b q
sorted_apart (x ∷ xs) (suc i) (suc m) s h g e = sorted_apart xs i m s.1 (le_of_suc-le-suc h) (le_of_suc-le-suc g) e

above-first : (k l : List ℕ) → Below k l → cmp l k ≡ Greater
above-first k l b = cmp-flip k l ∙ ap ordering_reverse b

below-first : (k l : List ℕ) → cmp l k ≡ Greater → Below k l
below-first k l g = cmp-flip l k ∙ ap ordering_reverse g

-- a search from place j gives no place before j
from_low : (j : ℕ) (k : List ℕ) (es : List Entry) → j ≤ place_of (find_from j k es)
unfolding find_from place_of by_order
from_low j k [] = omega arith
from_low j k (x ∷ xs) = go (cmp k x.key) (from_low (j + 1) k xs)
  where
    go : (o : Ordering) → j + 1 ≤ place_of (find_from (j + 1) k xs) → j ≤ place_of (by_order o (Err j) (Ok j) (find_from (j + 1) k xs))
    go Less h = omega arith
    go Equal h = omega arith
    go Greater h = omega arith

-- by the order of k and the key at m
module _ (k : List ℕ) where
  less-at : (j : ℕ) (es : List Entry) (m : ℕ) → m < length es → cmp k (get_or es m no_entry).key ≡ Less → past_of (find_from j k es) ≤ j + m
  unfolding find_from past_of by_order
  less-at j [] m h q = absurd (not-suc-le-zero h)
  less-at j (x ∷ xs) zero h q =
      let e : find_from j k (x ∷ xs) ≡ Err j = ap (λ (o : Ordering). by_order o (Err j) (Ok j) (find_from (j + 1) k xs)) q in
      let p = ap past_of e in omega arith
  less-at j (x ∷ xs) (suc m) h q = go (cmp k x.key) (less-at (j + 1) xs m (le_of_suc-le-suc h) q)
    where
      go : (o : Ordering) → past_of (find_from (j + 1) k xs) ≤ j + 1 + m → past_of (by_order o (Err j) (Ok j) (find_from (j + 1) k xs)) ≤ j + suc m
      go Less h = omega arith
      go Equal h = omega arith
      go Greater h = omega arith

  greater-at : (j : ℕ) (es : List Entry) (m : ℕ) → Sorted es → m < length es → cmp k (get_or es m no_entry).key ≡ Greater → j + m + 1 ≤ place_of (find_from j k es)
  unfolding find_from place_of by_order
  greater-at j [] m s h q = absurd (not-suc-le-zero h)
  greater-at j (x ∷ xs) zero s h q =
      let e : find_from j k (x ∷ xs) ≡ find_from (j + 1) k xs = ap (λ (o : Ordering). by_order o (Err j) (Ok j) (find_from (j + 1) k xs)) q in
      let p = ap place_of e in let z = from_low (j + 1) k xs in omega arith
  greater-at j (x ∷ xs) (suc m) s h q =
      let y : List ℕ = (get_or xs m no_entry).key in
      let b : cmp k x.key ≡ Greater = above-first x.key k (below-trans x.key y k (above-all x.key xs m s.0 s.1 (le_of_suc-le-suc h)) (below-first y k q)) in
      let e : find_from j k (x ∷ xs) ≡ find_from (j + 1) k xs = ap (λ (o : Ordering). by_order o (Err j) (Ok j) (find_from (j + 1) k xs)) b in
      let p = ap place_of e in let z = greater-at (j + 1) xs m s.1 (le_of_suc-le-suc h) q in omega arith

  equal-at : (j : ℕ) (es : List Entry) (m : ℕ) → Sorted es → m < length es → cmp k (get_or es m no_entry).key ≡ Equal → Ok (j + m) ≡ find_from j k es
  unfolding find_from by_order
  equal-at j [] m s h q = absurd (not-suc-le-zero h)
  equal-at j (x ∷ xs) zero s h q =
      ap Ok (let z : j + 0 ≡ j = omega arith in z) ∙ sym (ap (λ (o : Ordering). by_order o (Err j) (Ok j) (find_from (j + 1) k xs)) q)
  equal-at j (x ∷ xs) (suc m) s h q =
      let y : List ℕ = (get_or xs m no_entry).key in
      let u : Below x.key k = subst (λ (z : List ℕ). Below x.key z) (sym (cmp-equal k y q)) (above-all x.key xs m s.0 s.1 (le_of_suc-le-suc h)) in
      ap Ok (let z : j + suc m ≡ j + 1 + m = omega arith in z) ∙ equal-at (j + 1) xs m s.1 (le_of_suc-le-suc h) q
      ∙ sym (ap (λ (o : Ordering). by_order o (Err j) (Ok j) (find_from (j + 1) k xs)) (above-first x.key k u))

  module _ (es : List Entry) (lo hi m : ℕ) (s : Sorted es) (h : m < length es) (b : Between (find_in k es) lo hi) where
    pub half-below : cmp k (get_or es m no_entry).key ≡ Less → Between (find_in k es) lo m
    unfolding find_in
    half-below q = let x = less-at 0 es m h q in record { low = b.low; high = omega arith }

    pub half-above : cmp k (get_or es m no_entry).key ≡ Greater → Between (find_in k es) (m + 1) hi
    unfolding find_in
    half-above q = let x = greater-at 0 es m s h q in record { low = omega arith; high = b.high }

    pub here : cmp k (get_or es m no_entry).key ≡ Equal → Ok m ≡ find_in k es
    unfolding find_in
    here q = ap Ok (let z : m ≡ 0 + m = omega arith in z) ∙ equal-at 0 es m s h q
