-- Laws of the operations on entries: they keep them fit and in order; the place of a key tells the rest.
use Rattle.std.specs.Prelude.{◌≡◌, refl, List, [], ◌∷◌, ℕ, suc, ◌+◌, ◌≤◌, length, Result, Ok, Err}
use Rattle.std.proofs.Common.{sym, ap, ◌∙◌, subst, arith}
use Rattle.std.specs.declared.cmp.Ordering.{Ordering}
use Rattle.std.specs.declared.cmp.Ordering.TheVariants.{Less, Equal, Greater}
use Rattle.store_block.specs.Order.{cmp, Below}
use Rattle.store_block.specs.OrderLaws.{cmp-equal, cmp-flip, below-trans}
use Rattle.std.specs.Ordering.{ordering_reverse}
use Rattle.store_block.specs.Entry.{Entry, Fit}
use Rattle.store_layout.specs.Store.{AllFit, none, more, Above, Sorted}
use Rattle.store_layout.specs.Entries.{by_order, find_from, place_of, past_of, below, up_to, put_entry, remove_entry}
use Rattle.store_layout.specs.Places.{InGap, IsAt}

pub by_less {ℓ} : {X : Type ℓ} (o : Ordering) (a b c d : X) → o ≡ Less → by_order o a b c ≡ d → a ≡ d
unfolding by_order
by_less o a b c d e h = sym (ap (λ (o : Ordering). by_order o a b c) e) ∙ h

pub by_equal {ℓ} : {X : Type ℓ} (o : Ordering) (a b c d : X) → o ≡ Equal → by_order o a b c ≡ d → b ≡ d
unfolding by_order
by_equal o a b c d e h = sym (ap (λ (o : Ordering). by_order o a b c) e) ∙ h

pub by-greater {ℓ} : {X : Type ℓ} (o : Ordering) (a b c d : X) → o ≡ Greater → by_order o a b c ≡ d → c ≡ d
unfolding by_order
by-greater o a b c d e h = sym (ap (λ (o : Ordering). by_order o a b c) e) ∙ h

pub is-less {ℓ} : {X : Type ℓ} (o : Ordering) (a b c : X) → o ≡ Less → by_order o a b c ≡ a
is-less o a b c e = sym (by_less o a b c (by_order o a b c) e refl)

pub is-equal {ℓ} : {X : Type ℓ} (o : Ordering) (a b c : X) → o ≡ Equal → by_order o a b c ≡ b
is-equal o a b c e = sym (by_equal o a b c (by_order o a b c) e refl)

pub is_greater {ℓ} : {X : Type ℓ} (o : Ordering) (a b c : X) → o ≡ Greater → by_order o a b c ≡ c
is_greater o a b c e = sym (by-greater o a b c (by_order o a b c) e refl)

never : {X : Type 0} (i j : ℕ) → Err i ≡ Ok j → X
never i j e = absurd (let z : ◌≡◌ {A = ℕ} 0 1 = cc in omega arith)

gap-inj : (i j : ℕ) → ◌≡◌ {A = Result ℕ ℕ} (Err i) (Err j) → i ≡ j
gap-inj i j e = cc

at-inj : (i j : ℕ) → ◌≡◌ {A = Result ℕ ℕ} (Ok i) (Ok j) → i ≡ j
at-inj i j e = cc

-- by the three ways that two keys stand
pub by-order {ℓ} : {X : Type ℓ} (k l : List ℕ) → (cmp k l ≡ Less → X) → (cmp k l ≡ Equal → X) → (cmp k l ≡ Greater → X) → X
by-order {X = X} k l f g h = go (cmp k l) refl
  where
    go : (o : Ordering) → cmp k l ≡ o → X
    go Less e = f e
    go Equal e = g e
    go Greater e = h e

-- ---- what a search says of the entries with one put in or taken out

pub in-gap : (j i : ℕ) (e : Entry) (es : List Entry) → find_from j e.key es ≡ Err i → InGap j i e es
unfolding find_from put_entry remove_entry
in-gap j i e [] h = record { off = 0; place = let g = gap-inj j i h in omega arith; within = omega arith; put = refl; removed = refl }
in-gap j i e (x ∷ xs) h = go (λ p. in-gap (j + 1) i e xs p)
  where
    go : (find_from (j + 1) e.key xs ≡ Err i → InGap (j + 1) i e xs) → InGap j i e (x ∷ xs)
    go ih =
        by-order e.key x.key
        (λ q.
        let g = gap-inj j i (by_less _ _ _ _ _ q h) in
        record { off = 0; place = omega arith; within = omega arith; put = is-less _ _ _ _ q; removed = is-less _ _ _ _ q })
        (λ q. never i j (sym (by_equal _ _ _ _ _ q h)))
        (λ q.
        let r = ih (by-greater _ _ _ _ _ q h) in
        let r1 = r.place in let r2 = r.within in
        record {
          off = suc r.off;
          place = omega arith;
          within = omega arith;
          put = is_greater _ _ _ _ q ∙ ap (λ (l : List Entry). x ∷ l) r.put;
          removed = is_greater _ _ _ _ q ∙ ap (λ (l : List Entry). x ∷ l) r.removed;
        })

pub is_at : (j i : ℕ) (e : Entry) (es : List Entry) → find_from j e.key es ≡ Ok i → IsAt j i e es
unfolding find_from put_entry remove_entry
is_at j i e [] h = never j i h
is_at j i e (x ∷ xs) h = go (λ p. is_at (j + 1) i e xs p)
  where
    go : (find_from (j + 1) e.key xs ≡ Ok i → IsAt (j + 1) i e xs) → IsAt j i e (x ∷ xs)
    go ih =
        by-order e.key x.key
        (λ q. never j i (by_less _ _ _ _ _ q h))
        (λ q.
        let g = at-inj j i (by_equal _ _ _ _ _ q h) in
        record { off = 0; place = omega arith; within = omega arith; put = is-equal _ _ _ _ q; removed = is-equal _ _ _ _ q })
        (λ q.
        let r = ih (by-greater _ _ _ _ _ q h) in
        let r1 = r.place in let r2 = r.within in
        record {
          off = suc r.off;
          place = omega arith;
          within = omega arith;
          put = is_greater _ _ _ _ q ∙ ap (λ (l : List Entry). x ∷ l) r.put;
          removed = is_greater _ _ _ _ q ∙ ap (λ (l : List Entry). x ∷ l) r.removed;
        })

-- ---- entries stay fit and in order

turned : (k l : List ℕ) (o : Ordering) → cmp k l ≡ o → cmp l k ≡ ordering_reverse o
turned k l o q = cmp-flip k l ∙ ap ordering_reverse q

pub put-above : (k : List ℕ) (e : Entry) (es : List Entry) → Below k e.key → Above k es → Above k (put_entry e es)
unfolding put_entry
put-above k e [] b a = b
put-above k e (x ∷ xs) b a =
    by-order e.key x.key
    (λ q. subst (λ (l : List Entry). Above k l) (sym (is-less _ (e ∷ x ∷ xs) (e ∷ xs) (x ∷ put_entry e xs) q)) b)
    (λ q. subst (λ (l : List Entry). Above k l) (sym (is-equal _ (e ∷ x ∷ xs) (e ∷ xs) (x ∷ put_entry e xs) q)) b)
    (λ q. subst (λ (l : List Entry). Above k l) (sym (is_greater _ (e ∷ x ∷ xs) (e ∷ xs) (x ∷ put_entry e xs) q)) a)

pub put-sorted : (e : Entry) (es : List Entry) → Sorted es → Sorted (put_entry e es)
unfolding put_entry
put-sorted e [] s = (tt, tt)
put-sorted e (x ∷ xs) s =
    let ih = put-sorted e xs s.1 in
    by-order e.key x.key
    (λ q. subst (λ (l : List Entry). Sorted l) (sym (is-less _ (e ∷ x ∷ xs) (e ∷ xs) (x ∷ put_entry e xs) q)) (q, s))
    (λ q. subst (λ (l : List Entry). Sorted l) (sym (is-equal _ (e ∷ x ∷ xs) (e ∷ xs) (x ∷ put_entry e xs) q)) (subst (λ (k : List ℕ). Above k xs) (sym (cmp-equal e.key x.key q)) s.0, s.1))
    (λ q. subst (λ (l : List Entry). Sorted l) (sym (is_greater _ (e ∷ x ∷ xs) (e ∷ xs) (x ∷ put_entry e xs) q)) (put-above x.key e xs (turned e.key x.key Greater q) s.0, ih))

pub put_fit : (e : Entry) (es : List Entry) → Fit e → AllFit es → AllFit (put_entry e es)
unfolding put_entry
put_fit e [] f fs = more f none
put_fit e (x ∷ xs) f (more g fs) =
    let ih = put_fit e xs f fs in
    by-order e.key x.key
    (λ q. subst (λ (l : List Entry). AllFit l) (sym (is-less _ (e ∷ x ∷ xs) (e ∷ xs) (x ∷ put_entry e xs) q)) (AllFit.more f (AllFit.more g fs)))
    (λ q. subst (λ (l : List Entry). AllFit l) (sym (is-equal _ (e ∷ x ∷ xs) (e ∷ xs) (x ∷ put_entry e xs) q)) (AllFit.more f fs))
    (λ q. subst (λ (l : List Entry). AllFit l) (sym (is_greater _ (e ∷ x ∷ xs) (e ∷ xs) (x ∷ put_entry e xs) q)) (AllFit.more g ih))

-- a key below the first entry's is below the next one's
pub above-next : (k : List ℕ) (x : Entry) (xs : List Entry) → Below k x.key → Above x.key xs → Above k xs
above-next k x [] b a = tt
above-next k x (y ∷ ys) b a = below-trans k x.key y.key b a

pub remove-above : (k k' : List ℕ) (es : List Entry) → Above k es → Sorted es → Above k (remove_entry k' es)
unfolding remove_entry
remove-above k k' [] a s = tt
remove-above k k' (x ∷ xs) a s =
    by-order k' x.key
    (λ q. subst (λ (l : List Entry). Above k l) (sym (is-less _ (x ∷ xs) xs (x ∷ remove_entry k' xs) q)) a)
    (λ q. subst (λ (l : List Entry). Above k l) (sym (is-equal _ (x ∷ xs) xs (x ∷ remove_entry k' xs) q)) (above-next k x xs a s.0))
    (λ q. subst (λ (l : List Entry). Above k l) (sym (is_greater _ (x ∷ xs) xs (x ∷ remove_entry k' xs) q)) a)

pub remove-sorted : (k : List ℕ) (es : List Entry) → Sorted es → Sorted (remove_entry k es)
unfolding remove_entry
remove-sorted k [] s = tt
remove-sorted k (x ∷ xs) s =
    let ih = remove-sorted k xs s.1 in
    by-order k x.key
    (λ q. subst (λ (l : List Entry). Sorted l) (sym (is-less _ (x ∷ xs) xs (x ∷ remove_entry k xs) q)) s)
    (λ q. subst (λ (l : List Entry). Sorted l) (sym (is-equal _ (x ∷ xs) xs (x ∷ remove_entry k xs) q)) s.1)
    (λ q. subst (λ (l : List Entry). Sorted l) (sym (is_greater _ (x ∷ xs) xs (x ∷ remove_entry k xs) q)) (remove-above x.key k xs s.0 s.1, ih))

pub remove-fit : (k : List ℕ) (es : List Entry) → AllFit es → AllFit (remove_entry k es)
unfolding remove_entry
remove-fit k [] fs = none
remove-fit k (x ∷ xs) (more g fs) =
    let ih = remove-fit k xs fs in
    by-order k x.key
    (λ q. subst (λ (l : List Entry). AllFit l) (sym (is-less _ (x ∷ xs) xs (x ∷ remove_entry k xs) q)) (AllFit.more g fs))
    (λ q. subst (λ (l : List Entry). AllFit l) (sym (is-equal _ (x ∷ xs) xs (x ∷ remove_entry k xs) q)) fs)
    (λ q. subst (λ (l : List Entry). AllFit l) (sym (is_greater _ (x ∷ xs) xs (x ∷ remove_entry k xs) q)) (AllFit.more g ih))

pub remove-short : (k : List ℕ) (es : List Entry) → length (remove_entry k es) ≤ length es
unfolding remove_entry
remove-short k [] = omega arith
remove-short k (x ∷ xs) =
    let ih = remove-short k xs in
    by-order k x.key
    (λ q. subst (λ (l : List Entry). length l ≤ length (x ∷ xs)) (sym (is-less _ (x ∷ xs) xs (x ∷ remove_entry k xs) q)) (omega arith))
    (λ q. subst (λ (l : List Entry). length l ≤ length (x ∷ xs)) (sym (is-equal _ (x ∷ xs) xs (x ∷ remove_entry k xs) q)) (omega arith))
    (λ q. subst (λ (l : List Entry). length l ≤ length (x ∷ xs)) (sym (is_greater _ (x ∷ xs) xs (x ∷ remove_entry k xs) q)) (omega arith))

-- ---- the place of a key tells how many keys are below it

-- no key is below, or equal to, one that is below the first
pub none_below : (k : List ℕ) (es : List Entry) → Above k es → Sorted es → below k es ≡ 0
unfolding below
none_below k [] a s = refl
none_below k (x ∷ xs) a s = is_greater _ _ _ _ (turned k x.key Less a) ∙ none_below k xs (above-next k x xs a s.0) s.1

pub none-up_to : (k : List ℕ) (es : List Entry) → Above k es → Sorted es → up_to k es ≡ 0
unfolding up_to
none-up_to k [] a s = refl
none-up_to k (x ∷ xs) a s = is_greater _ _ _ _ (turned k x.key Less a) ∙ none-up_to k xs (above-next k x xs a s.0) s.1

-- the entries after one whose key is k
pub after : (k : List ℕ) (x : Entry) (xs : List Entry) → cmp k x.key ≡ Equal → Above x.key xs → Above k xs
after k x xs q a = subst (λ (l : List ℕ). Above l xs) (sym (cmp-equal k x.key q)) a

pub find-below : (j : ℕ) (k : List ℕ) (es : List Entry) → Sorted es → place_of (find_from j k es) ≡ j + below k es
unfolding find_from below place_of
find-below j k [] s = omega arith
find-below j k (x ∷ xs) s =
    let ih = find-below (j + 1) k xs s.1 in
    by-order k x.key
    (λ q. let n = none_below k (x ∷ xs) q s in ap place_of (is-less _ _ _ _ q) ∙ (let z : j ≡ j + below k (x ∷ xs) = omega arith in z))
    (λ q.
    let n = none_below k xs (after k x xs q s.0) s.1 in
    let m : below k (x ∷ xs) ≡ below k xs = is-equal _ _ _ _ (turned k x.key Equal q) in
    ap place_of (is-equal _ _ _ _ q) ∙ (let z : j ≡ j + below k (x ∷ xs) = omega arith in z))
    (λ q.
    let m : below k (x ∷ xs) ≡ 1 + below k xs = is-less _ _ _ _ (turned k x.key Greater q) in
    ap place_of (is_greater _ _ _ _ q) ∙ ih ∙ (let z : j + 1 + below k xs ≡ j + below k (x ∷ xs) = omega arith in z))

pub find-up_to : (j : ℕ) (k : List ℕ) (es : List Entry) → Sorted es → past_of (find_from j k es) ≡ j + up_to k es
unfolding find_from up_to past_of
find-up_to j k [] s = omega arith
find-up_to j k (x ∷ xs) s =
    let ih = find-up_to (j + 1) k xs s.1 in
    by-order k x.key
    (λ q. let n = none-up_to k (x ∷ xs) q s in ap past_of (is-less _ _ _ _ q) ∙ (let z : j ≡ j + up_to k (x ∷ xs) = omega arith in z))
    (λ q.
    let n = none-up_to k xs (after k x xs q s.0) s.1 in
    let m : up_to k (x ∷ xs) ≡ 1 + up_to k xs = is-equal _ _ _ _ (turned k x.key Equal q) in
    ap past_of (is-equal _ _ _ _ q) ∙ (let z : j + 1 ≡ j + up_to k (x ∷ xs) = omega arith in z))
    (λ q.
    let m : up_to k (x ∷ xs) ≡ 1 + up_to k xs = is-less _ _ _ _ (turned k x.key Greater q) in
    ap past_of (is_greater _ _ _ _ q) ∙ ih ∙ (let z : j + 1 + up_to k xs ≡ j + up_to k (x ∷ xs) = omega arith in z))

pub below-most : (k : List ℕ) (es : List Entry) → below k es ≤ length es
unfolding below
below-most k [] = omega arith
below-most k (x ∷ xs) =
    let ih = below-most k xs in
    by-order x.key k (λ q. let m = is-less _ (1 + below k xs) (below k xs) (below k xs) q in omega arith)
    (λ q. let m = is-equal _ (1 + below k xs) (below k xs) (below k xs) q in omega arith)
    (λ q. let m = is_greater _ (1 + below k xs) (below k xs) (below k xs) q in omega arith)

pub up_to-most : (k : List ℕ) (es : List Entry) → up_to k es ≤ length es
unfolding up_to
up_to-most k [] = omega arith
up_to-most k (x ∷ xs) =
    let ih = up_to-most k xs in
    by-order x.key k (λ q. let m = is-less _ (1 + up_to k xs) (1 + up_to k xs) (up_to k xs) q in omega arith)
    (λ q. let m = is-equal _ (1 + up_to k xs) (1 + up_to k xs) (up_to k xs) q in omega arith)
    (λ q. let m = is_greater _ (1 + up_to k xs) (1 + up_to k xs) (up_to k xs) q in omega arith)
