-- What the check of a store decides, block by block.
use Rattle.std.specs.Prelude.{◌≡◌, refl, Bool, true, false, ◌&&◌, List, [], ◌∷◌, ◌++◌, ℕ, zero, suc, ◌+◌, ◌-◌, ◌*◌, ◌≤◌, ◌<◌, eqb, length, take, drop, get_or, replicate}
use Rattle.std.proofs.Common.{sym, ap, ap₂, ◌∙◌, subst, subst₂, append-nil, append_assoc, not-suc-le-zero, le_of_suc-le-suc, arith, length-drop, take-append-drop, take_at, drop_at, get_or-drop, drop-drop, take_all, eqb-true}
use Rattle.std.proofs.lemmas.List.{length-replicate}
use Rattle.std.proofs.lemmas.Bool.{eqb-false}
use Rattle.std.specs.declared.cmp.Ordering.{Ordering}
use Rattle.std.specs.declared.cmp.Ordering.TheVariants.{Less, Equal, Greater}
use Rattle.store_block.specs.Order.{cmp, Below}
use Rattle.store_block.specs.Entry.{Entry, Fit}
use Rattle.std.specs.Ordering.{is_eq, is_lt}
use Rattle.store_block.specs.Block.{block, decode, BlockGood, block_test}
use Rattle.store_block.specs.BlockLaws.{sized, decode-block, length-block}
use Rattle.store_block.specs.Decides.{Decides}
use Rattle.store_block.specs.DecidesLaws.{decides-by, agree, both-decides, leb-decides, eqb-decides, equal-decides, less-decides, block-decides}
use Rattle.store_layout.specs.Store.{blocks_in, blocks, bytes_of, entries_of, AllFit, Above, Sorted, Good, good_from, store_good}
use Rattle.store_layout.proofs.StoreLaws.{room, entries-bytes, bytes-cons, bytes-nil, used, length-bytes}
use Rattle.store_layout.proofs.WalkLaws.{first-at}
use Rattle.store_layout.specs.Check.{GoodFrom, Step, Turn}

above-none : (es : List Entry) → AllFit es → Above [] es
unfolding cmp
above-none [] fs = tt
above-none (e ∷ es) (AllFit.more f fs) = nonempty e.key f.key_some
  where
    nonempty : (k : List ℕ) → 1 ≤ length k → Below [] k
    nonempty [] h = absurd (not-suc-le-zero h)
    nonempty (x ∷ xs) h = refl

-- the whole store is that from its first block on, and 1 to 128 blocks long
pub good-from : (l : List ℕ) → Good l → GoodFrom [] l (blocks_in l)
good-from l g = record { entries = entries_of l; fit = g.fit; sorted = g.sorted; above = above-none (entries_of l) g.fit; room = room l; same = g.same }

pub from-good : (l : List ℕ) → 1 ≤ blocks_in l → blocks_in l ≤ 128 → GoodFrom [] l (blocks_in l) → Good l
from-good l s m g =
    let q : entries_of l ≡ g.entries = ap entries_of g.same ∙ entries-bytes (blocks_in l) g.entries g.fit g.room in
    record {
      some = s;
      most = m;
      fit = subst (λ (x : List Entry). AllFit x) (sym q) g.fit;
      sorted = subst (λ (x : List Entry). Sorted x) (sym q) g.sorted;
      same = g.same ∙ ap (bytes_of (blocks_in l)) (sym q);
    }

pub step_in : (k l : List ℕ) (n : ℕ) → (get_or l 0 0 ≡ 0 → ⊥) → GoodFrom k l (suc n) → Step k l n
step_in k l n u g = go g.entries g.fit g.sorted g.above g.room g.same
  where
    go : (es : List Entry) → AllFit es → Sorted es → Above k es → length es ≤ suc n → l ≡ bytes_of (suc n) es → Step k l n
    go [] fs ss ab r s = absurd (u (ap (λ (x : List ℕ). get_or x 0 0) s ∙ bytes-nil (suc n)))
    go (e ∷ es) (AllFit.more f fs) ss ab r s =
        let w : l ≡ block e ++ bytes_of n es = s ∙ bytes-cons e es n in
        let d : decode l ≡ e = ap decode w ∙ decode-block e (bytes_of n es) (sized f) in
        let t : take 512 l ≡ block e = ap (take 512) w ∙ take_at (block e) (bytes_of n es) 512 (length-block e (sized f)) in
        let q : drop 512 l ≡ bytes_of n es = ap (drop 512) w ∙ drop_at (block e) (bytes_of n es) 512 (length-block e (sized f)) in
        let dt : decode (take 512 l) ≡ e = ap decode (t ∙ sym (append-nil (block e))) ∙ decode-block e [] (sized f) in
        record {
          block_good = record { fit = subst (λ (x : Entry). Fit x) (sym dt) f; same = ap block dt ∙ sym t };
          below = subst (λ (x : Entry). Below k x.key) (sym d) ab;
          rest = subst (λ (x : Entry). GoodFrom x.key (drop 512 l) n) (sym d)
              (record { entries = es; fit = fs; sorted = ss.1; above = ss.0; room = le_of_suc-le-suc r; same = q });
        }

pub step-out : (k l : List ℕ) (n : ℕ) → Step k l n → GoodFrom k l (suc n)
step-out k l n s =
    let e : Entry = decode (take 512 l) in
    let f = s.block_good.fit in
    let g = s.rest in
    let w : l ≡ block e ++ drop 512 l = sym (take-append-drop 512 l) ∙ ap (λ (x : List ℕ). x ++ drop 512 l) (sym s.block_good.same) in
    let d : decode l ≡ e = ap decode w ∙ decode-block e (drop 512 l) (sized f) in
    record {
      entries = e ∷ g.entries;
      fit = AllFit.more f g.fit;
      sorted = (subst (λ (x : Entry). Above x.key g.entries) d g.above, g.sorted);
      above = subst (λ (x : Entry). Below k x.key) d s.below;
      room = let r = g.room in omega arith;
      same = w ∙ ap (λ (x : List ℕ). block e ++ x) g.same ∙ sym (bytes-cons e g.entries n);
    }

-- from the first blank block on all is zero
pub blank-in : (k l : List ℕ) (n : ℕ) → get_or l 0 0 ≡ 0 → 0 < n → GoodFrom k l n → l ≡ replicate (length l) 0
unfolding bytes_of blocks
blank-in k l n z h g = go g.entries g.fit g.same
  where
    go : (es : List Entry) → AllFit es → l ≡ bytes_of n es → l ≡ replicate (length l) 0
    go [] fs s =
        let q : length l ≡ (n - 0) * 512 = ap length s ∙ length-replicate ((n - 0) * 512) 0 in
        s ∙ ap (λ (m : ℕ). replicate m 0) (sym q)
    go (e ∷ es) fs s = absurd (used e _ (sym (ap (λ (x : List ℕ). get_or x 0 0) (s ∙ append_assoc (block e) (blocks es) _)) ∙ z))

pub blank-out : (k l : List ℕ) (n : ℕ) → length l ≡ n * 512 → l ≡ replicate (length l) 0 → GoodFrom k l n
unfolding bytes_of blocks
blank-out k l n h z =
    let q : length l ≡ (n - 0) * 512 = omega arith in
    record { entries = []; fit = AllFit.none; sorted = tt; above = tt; room = omega arith; same = z ∙ ap (λ (m : ℕ). replicate m 0) q }

pub end-out : (k l : List ℕ) → length l ≡ 0 → GoodFrom k l 0
end-out k l h = blank-out k l 0 h (nil l h)
  where
    nil : (l : List ℕ) → length l ≡ 0 → l ≡ replicate (length l) 0
    nil [] h = refl
    nil (x ∷ xs) h = absurd (omega arith)

-- ---- a turn of the walk over the blocks

pub key-at : (l : List ℕ) (a w : ℕ) → w ≡ get_or l (a + 1) 0 → (decode (drop a l)).key ≡ take (a + 8 + w - (a + 8)) (drop (a + 8) l)
unfolding decode
key-at l a w e =
    let c : a + 8 + w - (a + 8) ≡ get_or l (a + 1) 0 = omega arith in
    ap₂ take (get_or-drop a l 1 0) (drop-drop 8 a l) ∙ ap (λ (n : ℕ). take n (drop (a + 8) l)) (sym c)

module _ (k l : List ℕ) (n i a w : ℕ) (h : i < n) (ww : w ≡ get_or l (a + 1) 0) where
  pub turn_in : (get_or l a 0 ≡ 0 → ⊥) → GoodFrom k (drop a l) (n - i) → Turn k l n i a w
  turn_in u g =
      let m : n - i ≡ suc (n - (i + 1)) = omega arith in
      let c : 512 ≡ a + 512 - a = omega arith in
      let s = step_in k (drop a l) (n - (i + 1)) (λ z. u (sym (first-at l a) ∙ z)) (subst (λ (x : ℕ). GoodFrom k (drop a l) x) m g) in
      record {
        block_good = subst (λ (x : ℕ). BlockGood (take x (drop a l))) c s.block_good;
        below = subst (λ (x : List ℕ). Below k x) (key-at l a w ww) s.below;
        rest = subst₂ (λ (x y : List ℕ). GoodFrom x y (n - (i + 1))) (key-at l a w ww) (drop-drop 512 a l) s.rest;
      }

  pub turn-out : Turn k l n i a w → GoodFrom k (drop a l) (n - i)
  turn-out t =
      let m : suc (n - (i + 1)) ≡ n - i = omega arith in
      let c : a + 512 - a ≡ 512 = omega arith in
      subst (λ (x : ℕ). GoodFrom k (drop a l) x) m
      (step-out k (drop a l) (n - (i + 1))
      (record {
        block_good = subst (λ (x : ℕ). BlockGood (take x (drop a l))) c t.block_good;
        below = subst (λ (x : List ℕ). Below k x) (sym (key-at l a w ww)) t.below;
        rest = subst₂ (λ (x y : List ℕ). GoodFrom x y (n - (i + 1))) (sym (key-at l a w ww)) (sym (drop-drop 512 a l)) t.rest;
      }))

-- the rest is blank or not
pub blank-decides : (r : Bool) (k l : List ℕ) (n i a : ℕ) → i < n → a ≡ i * 512 → length l ≡ n * 512 → get_or l a 0 ≡ 0
    → Decides r (take (length l - a) (drop a l) ≡ replicate (length (take (length l - a) (drop a l))) 0) → Decides r (GoodFrom k (drop a l) (n - i))
blank-decides r k l n i a h e q z d =
    let len : length (drop a l) ≡ (n - i) * 512 = let x = length-drop a l in omega arith in
    let all : take (length l - a) (drop a l) ≡ drop a l = take_all (length l - a) (drop a l) (let x = length-drop a l in omega arith) in
    let d' : Decides r (drop a l ≡ replicate (length (drop a l)) 0) = subst (λ (x : List ℕ). Decides r (x ≡ replicate (length x) 0)) all d in
    decides-by (λ p. blank-out k (drop a l) (n - i) len p) (λ g. blank-in k (drop a l) (n - i) (first-at l a ∙ z) (omega arith) g) d'

pub less-not-equal : (o : Ordering) → o ≡ Less → o ≡ Equal → ⊥
less-not-equal o p q = let z : ◌≡◌ {A = ℕ} 0 1 = cc in omega arith

pub less_not_greater : (o : Ordering) → o ≡ Less → o ≡ Greater → ⊥
less_not_greater o p q = let z : ◌≡◌ {A = ℕ} 0 1 = cc in omega arith

from-length : (k l : List ℕ) (n : ℕ) → GoodFrom k l n → length l ≡ n * 512
from-length k l n g = ap length g.same ∙ length-bytes g.entries n g.fit g.room

from-decides : (n : ℕ) (k l : List ℕ) → Decides (good_from n k l) (GoodFrom k l n)
unfolding good_from
from-decides zero k l = decides-by (λ h. end-out k l h) (λ g. let q = from-length k l 0 g in omega arith) (eqb-decides (length l) 0)
from-decides (suc n) k l = go (eqb (get_or l 0 0) 0) refl (from-decides n (decode l).key (drop 512 l))
  where
    go : (b : Bool) → eqb (get_or l 0 0) 0 ≡ b → Decides (good_from n (decode l).key (drop 512 l)) (GoodFrom (decode l).key (drop 512 l) n)
        → Decides (elim b [
          | true ↦ (eqb (length l) (suc n * 512) && is_eq (cmp l (replicate (length l) 0)))
          | false ↦ (block_test (take 512 l) && (is_lt (cmp k (decode l).key) && good_from n (decode l).key (drop 512 l)))
        ]) (GoodFrom k l (suc n))
    go true e ih =
        let z : get_or l 0 0 ≡ 0 = eqb-true (get_or l 0 0) 0 e in
        decides-by (λ w. blank-out k l (suc n) w.0 w.1) (λ g. (from-length k l (suc n) g, blank-in k l (suc n) z (omega arith) g))
        (both-decides _ _ (eqb-decides (length l) (suc n * 512)) (equal-decides l (replicate (length l) 0)))
    go false e ih =
        decides-by (λ w. step-out k l n (record { block_good = w.0; below = w.1.0; rest = w.1.1 }))
        (λ g. let s = step_in k l n (eqb-false (get_or l 0 0) 0 e) g in (s.block_good, (s.below, s.rest)))
        (both-decides _ _ (block-decides (take 512 l)) (both-decides _ _ (less-decides k (decode l).key) ih))

-- the computed test decides the rules of a store
pub store-decides : (l : List ℕ) → Decides (store_good l) (Good l)
unfolding store_good
store-decides l =
    decides-by (λ w. from-good l w.0 w.1.0 w.1.1) (λ g. (g.some, (g.most, good-from l g)))
    (both-decides _ _ (leb-decides 1 (blocks_in l)) (both-decides _ _ (leb-decides (blocks_in l) 128) (from-decides (blocks_in l) [] l)))

-- what decides the rules is that test
pub is-test : (r : Bool) (l : List ℕ) → Decides r (Good l) → r ≡ store_good l
is-test r l d = agree r (store_good l) d (store-decides l)
