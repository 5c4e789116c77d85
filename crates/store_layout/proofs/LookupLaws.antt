-- The entry under a key: what it is, that the search finds it, and what put and remove do to it.
use Rattle.std.specs.Prelude.{◌≡◌, refl, List, [], ◌∷◌, ℕ, zero, suc, ◌+◌, ◌<◌, length, get_or, Ok, Err}
use Rattle.std.proofs.Common.{sym, ap, ◌∙◌, subst, arith}
use Rattle.std.proofs.Math.Option.{Option, none, some}
use Rattle.std.specs.declared.cmp.Ordering.TheVariants.{Less, Greater}
use Rattle.store_block.specs.Order.{cmp}
use Rattle.store_block.specs.OrderLaws.{cmp-refl, cmp-equal, cmp-flip, below-trans}
use Rattle.std.specs.Ordering.{ordering_reverse}
use Rattle.store_block.specs.Entry.{Entry, no_entry}
use Rattle.store_layout.specs.Store.{Above, Sorted}
use Rattle.store_layout.specs.Entries.{by_order, find_from, find_in, put_entry, remove_entry}
use Rattle.store_layout.proofs.EntriesLaws.{is-less, is-equal, is_greater, by-order, above-next}
use Rattle.store_layout.specs.Lookup.{under}

never : {X : Type 0} → ◌≡◌ {A = ℕ} 0 1 → X
never z = absurd (omega arith)

pub above-none : (k : List ℕ) (es : List Entry) → Above k es → under k es ≡ none
unfolding under
above-none k [] a = refl
above-none k (x ∷ xs) a = is-less _ _ _ _ a

-- what is under a key is one of the entries, and has the key
pub under_at : (k : List ℕ) (es : List Entry) (e : Entry) → under k es ≡ some e → (i : ℕ) × (i < length es) × (get_or es i no_entry ≡ e) × (e.key ≡ k)
unfolding under
under_at k [] e h = never (cc)
under_at k (x ∷ xs) e h = go (λ q. under_at k xs e q)
  where
    go : (under k xs ≡ some e → (i : ℕ) × (i < length xs) × (get_or xs i no_entry ≡ e) × (e.key ≡ k))
        → (i : ℕ) × (i < suc (length xs)) × (get_or (x ∷ xs) i no_entry ≡ e) × (e.key ≡ k)
    go ih =
        by-order k x.key
        (λ q. let a : none ≡ some e = sym (is-less _ none (some x) (under k xs) q) ∙ h in never (cc))
        (λ q.
        let a : some x ≡ some e = sym (is-equal _ none (some x) (under k xs) q) ∙ h in
        let b : x ≡ e = cc in
        (0, omega arith, b, ap (λ (y : Entry). y.key) (sym b) ∙ sym (cmp-equal k x.key q)))
        (λ q. let r = ih (sym (is_greater _ none (some x) (under k xs) q) ∙ h) in (suc r.0, omega (arith, r.1), r.2, r.3))

-- and every entry is under its own
below_all : (es : List Entry) (k : List ℕ) (i : ℕ) → Above k es → Sorted es → i < length es → cmp (get_or es i no_entry).key k ≡ Greater
below_all [] k i a s l = absurd (omega arith)
below_all (x ∷ xs) k zero a s l = cmp-flip k x.key ∙ ap ordering_reverse a
below_all (x ∷ xs) k (suc i) a s l = below_all xs k i (above-next k x xs a s.0) s.1 (omega arith)

pub at_under : (es : List Entry) (i : ℕ) → Sorted es → i < length es → under (get_or es i no_entry).key es ≡ some (get_or es i no_entry)
unfolding under
at_under [] i s l = absurd (omega arith)
at_under (x ∷ xs) zero s l = is-equal _ _ _ _ (cmp-refl x.key)
at_under (x ∷ xs) (suc i) s l = is_greater _ _ _ _ (below_all xs x.key i s.0 s.1 (omega arith)) ∙ at_under xs i s.1 (omega arith)

-- a search from place j on
found_from : (j i : ℕ) (k : List ℕ) (es : List Entry) → find_from j k es ≡ Ok i → (off : ℕ) × (i ≡ j + off) × (under k es ≡ some (get_or es off no_entry))
unfolding under find_from
found_from j i k [] e = never (cc)
found_from j i k (x ∷ xs) e = go (λ q. found_from (j + 1) i k xs q)
  where
    go : (find_from (j + 1) k xs ≡ Ok i → (off : ℕ) × (i ≡ j + 1 + off) × (under k xs ≡ some (get_or xs off no_entry)))
        → (off : ℕ) × (i ≡ j + off) × (under k (x ∷ xs) ≡ some (get_or (x ∷ xs) off no_entry))
    go ih =
        by-order k x.key
        (λ q. let a : Err j ≡ Ok i = sym (is-less _ (Err j) (Ok j) (find_from (j + 1) k xs) q) ∙ e in never (cc))
        (λ q.
        let a : Ok j ≡ Ok i = sym (is-equal _ (Err j) (Ok j) (find_from (j + 1) k xs) q) ∙ e in
        let b : j ≡ i = cc in
        (0, omega (arith, b), is-equal _ _ _ _ q))
        (λ q.
        let r = ih (sym (is_greater _ (Err j) (Ok j) (find_from (j + 1) k xs) q) ∙ e) in
        (suc r.0, omega (arith, r.1), is_greater _ _ _ _ q ∙ r.2))

gap_from : (j i : ℕ) (k : List ℕ) (es : List Entry) → find_from j k es ≡ Err i → under k es ≡ none
unfolding under find_from
gap_from j i k [] e = refl
gap_from j i k (x ∷ xs) e = go (λ q. gap_from (j + 1) i k xs q)
  where
    go : (find_from (j + 1) k xs ≡ Err i → under k xs ≡ none) → under k (x ∷ xs) ≡ none
    go ih =
        by-order k x.key
        (λ q. is-less _ _ _ _ q)
        (λ q. let a : Ok j ≡ Err i = sym (is-equal _ (Err j) (Ok j) (find_from (j + 1) k xs) q) ∙ e in never (cc))
        (λ q. is_greater _ _ _ _ q ∙ ih (sym (is_greater _ (Err j) (Ok j) (find_from (j + 1) k xs) q) ∙ e))

-- THE SEARCH FINDS IT: at the place that it gives, or it is not there
pub find_at : (k : List ℕ) (es : List Entry) (i : ℕ) → find_in k es ≡ Ok i → under k es ≡ some (get_or es i no_entry)
unfolding find_in
find_at k es i e =
    let r = found_from 0 i k es e in
    let z : r.0 ≡ i = omega (arith, r.1) in
    r.2 ∙ ap (λ (n : ℕ). some (get_or es n no_entry)) z

pub find-gap : (k : List ℕ) (es : List Entry) (i : ℕ) → find_in k es ≡ Err i → under k es ≡ none
unfolding find_in
find-gap k es i e = gap_from 0 i k es e

-- one law for put: its own key, and every other
pub put_under : (k : List ℕ) (e : Entry) (es : List Entry) → under k (put_entry e es) ≡ by_order (cmp k e.key) (under k es) (some e) (under k es)
unfolding under put_entry
put_under k e [] = refl
put_under k e (x ∷ xs) =
    let ih = put_under k e xs in
    by-order e.key x.key
    (λ q.
    ap (under k) (is-less _ (e ∷ x ∷ xs) (e ∷ xs) (x ∷ put_entry e xs) q)
    ∙ by-order k e.key
    (λ p. is-less _ _ _ _ p ∙ sym (is-less _ _ _ _ p ∙ is-less _ _ _ _ (below-trans k e.key x.key p q)))
    (λ p. is-equal _ _ _ _ p ∙ sym (is-equal _ _ _ _ p))
    (λ p. is_greater _ _ _ _ p ∙ sym (is_greater _ _ _ _ p)))
    (λ q.
    ap (under k) (is-equal _ (e ∷ x ∷ xs) (e ∷ xs) (x ∷ put_entry e xs) q)
    ∙ (let z : e.key ≡ x.key = cmp-equal e.key x.key q in
    let w = ap (cmp k) (sym z) in
    by-order k e.key
    (λ p. is-less _ _ _ _ p ∙ sym (is-less _ _ _ _ p ∙ is-less _ _ _ _ (w ∙ p)))
    (λ p. is-equal _ _ _ _ p ∙ sym (is-equal _ _ _ _ p))
    (λ p. is_greater _ _ _ _ p ∙ sym (is_greater _ _ _ _ p ∙ is_greater _ _ _ _ (w ∙ p)))))
    (λ q.
    ap (under k) (is_greater _ (e ∷ x ∷ xs) (e ∷ xs) (x ∷ put_entry e xs) q)
    ∙ by-order k x.key
    (λ p.
    let b : cmp x.key e.key ≡ Less = cmp-flip e.key x.key ∙ ap ordering_reverse q in
    is-less _ _ _ _ p ∙ sym (is-less _ _ _ _ (below-trans k x.key e.key p b) ∙ is-less _ _ _ _ p))
    (λ p.
    let b : cmp x.key e.key ≡ Less = cmp-flip e.key x.key ∙ ap ordering_reverse q in
    let c : cmp k e.key ≡ Less = ap (λ (z : List ℕ). cmp z e.key) (cmp-equal k x.key p) ∙ b in
    is-equal _ _ _ _ p ∙ sym (is-less _ _ _ _ c ∙ is-equal _ _ _ _ p))
    (λ p. is_greater _ _ _ _ p ∙ ih ∙ ap (λ (u : Option Entry). by_order (cmp k e.key) u (some e) u) (sym (is_greater _ _ _ _ p))))

-- one law for remove
pub remove-under : (k k' : List ℕ) (es : List Entry) → Sorted es → under k (remove_entry k' es) ≡ by_order (cmp k k') (under k es) none (under k es)
unfolding under remove_entry
remove-under k k' [] s =
    by-order k k' (λ p. sym (is-less _ _ _ _ p)) (λ p. sym (is-equal _ _ _ _ p)) (λ p. sym (is_greater _ _ _ _ p))
remove-under k k' (x ∷ xs) s =
    let ih = remove-under k k' xs s.1 in
    by-order k' x.key
    (λ q.
    ap (under k) (is-less _ (x ∷ xs) xs (x ∷ remove_entry k' xs) q)
    ∙ by-order k k'
    (λ p. sym (is-less _ _ _ _ p))
    (λ p. is-less _ _ _ _ (ap (λ (z : List ℕ). cmp z x.key) (cmp-equal k k' p) ∙ q) ∙ sym (is-equal _ _ _ _ p))
    (λ p. sym (is_greater _ _ _ _ p)))
    (λ q.
    ap (under k) (is-equal _ (x ∷ xs) xs (x ∷ remove_entry k' xs) q)
    ∙ (let z : k' ≡ x.key = cmp-equal k' x.key q in
    let w : cmp k x.key ≡ cmp k k' = ap (cmp k) (sym z) in
    by-order k k'
    (λ p. above-none k xs (above-next k x xs (w ∙ p) s.0) ∙ sym (is-less _ _ _ _ p ∙ is-less _ _ _ _ (w ∙ p)))
    (λ p. above-none k xs (subst (λ (y : List ℕ). Above y xs) (sym (cmp-equal k k' p ∙ z)) s.0) ∙ sym (is-equal _ _ _ _ p))
    (λ p. sym (is_greater _ _ _ _ p ∙ is_greater _ _ _ _ (w ∙ p)))))
    (λ q.
    ap (under k) (is_greater _ (x ∷ xs) xs (x ∷ remove_entry k' xs) q)
    ∙ by-order k x.key
    (λ p.
    let b : cmp x.key k' ≡ Less = cmp-flip k' x.key ∙ ap ordering_reverse q in
    is-less _ _ _ _ p ∙ sym (is-less _ _ _ _ (below-trans k x.key k' p b) ∙ is-less _ _ _ _ p))
    (λ p.
    let b : cmp x.key k' ≡ Less = cmp-flip k' x.key ∙ ap ordering_reverse q in
    let c : cmp k k' ≡ Less = ap (λ (z : List ℕ). cmp z k') (cmp-equal k x.key p) ∙ b in
    is-equal _ _ _ _ p ∙ sym (is-less _ _ _ _ c ∙ is-equal _ _ _ _ p))
    (λ p. is_greater _ _ _ _ p ∙ ih ∙ ap (λ (u : Option Entry). by_order (cmp k k') u none u) (sym (is_greater _ _ _ _ p))))

-- entries that ascend and have the same under every key are the same
pub ext : (es fs : List Entry) → Sorted es → Sorted fs → ((k : List ℕ) → under k es ≡ under k fs) → es ≡ fs
unfolding under
ext [] [] s t h = refl
ext [] (f ∷ fs) s t h = let a = h f.key ∙ is-equal _ none (some f) (under f.key fs) (cmp-refl f.key) in never (cc)
ext (e ∷ es) [] s t h = let a = sym (h e.key) ∙ is-equal _ none (some e) (under e.key es) (cmp-refl e.key) in never (cc)
ext (e ∷ es) (f ∷ fs) s t h = go (λ r. ext es fs s.1 t.1 r)
  where
    own : some e ≡ under e.key (f ∷ fs)
    own = sym (is-equal _ none (some e) (under e.key es) (cmp-refl e.key)) ∙ h e.key

    other : under f.key (e ∷ es) ≡ some f
    other = h f.key ∙ is-equal _ none (some f) (under f.key fs) (cmp-refl f.key)

    go : (((k : List ℕ) → under k es ≡ under k fs) → es ≡ fs) → e ∷ es ≡ f ∷ fs
    go ih =
        by-order e.key f.key
        (λ q. let a = own ∙ is-less _ none (some f) (under e.key fs) q in never (cc))
        (λ q.
        let a : some e ≡ some f = own ∙ is-equal _ none (some f) (under e.key fs) q in
        let same : e ≡ f = cc in
        let z : e.key ≡ f.key = cmp-equal e.key f.key q in
        let rest : es ≡ fs = ih (λ k.
        let w : cmp k f.key ≡ cmp k e.key = ap (cmp k) (sym z) in
        by-order k e.key
        (λ p. above-none k es (above-next k e es p s.0) ∙ sym (above-none k fs (above-next k f fs (w ∙ p) t.0)))
        (λ p.
        above-none k es (subst (λ (y : List ℕ). Above y es) (sym (cmp-equal k e.key p)) s.0)
        ∙ sym (above-none k fs (subst (λ (y : List ℕ). Above y fs) (sym (cmp-equal k e.key p ∙ z)) t.0)))
        (λ p. sym (is_greater _ none (some e) (under k es) p) ∙ h k ∙ is_greater _ none (some f) (under k fs) (w ∙ p))) in
        cc)
        (λ q.
        let b : cmp f.key e.key ≡ Less = cmp-flip e.key f.key ∙ ap ordering_reverse q in
        let a = sym (is-less _ none (some e) (under f.key es) b) ∙ other in never (cc))
