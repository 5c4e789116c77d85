-- The entries that are kept: they fit, stand in the order of their keys, and are those of the blocks that are kept.
use Rattle.std.specs.Prelude.{◌≡◌, refl, ◌⊎◌, Bool, true, false, cond, List, [], ◌∷◌, ◌++◌, ℕ, suc, ◌+◌, ◌≤◌, eqb, length}
use Rattle.std.proofs.Common.{sym, ap, ◌∙◌, subst, inl, inr, ⊎_elim, arith, length-append, eqb-true, ne_eqb}
use Rattle.std.proofs.lemmas.Bool.{eqb-false}
use Rattle.std.specs.declared.cmp.Ordering.{Ordering}
use Rattle.std.specs.declared.cmp.Ordering.TheVariants.{Less, Equal, Greater}
use Rattle.store_block.specs.Order.{cmp}
use Rattle.store_block.specs.OrderLaws.{cmp-equal, cmp-refl}
use Rattle.store_block.specs.Entry.{Entry}
use Rattle.std.specs.Ordering.{is_eq}
use Rattle.store_block.specs.Block.{decode, BlockGood}
use Rattle.store_layout.specs.Entries.{by_order, put_entry}
use Rattle.store_layout.proofs.EntriesLaws.{put-sorted, put_fit}
use Rattle.store_rescue.specs.declared.state.BlockState.{BlockState}
use Rattle.store_rescue.specs.declared.state.BlockState.TheVariants.{Blank, SumWrong, RuleBroken, Sound}
use Rattle.store_rescue.specs.State.{state_of}
use Rattle.store_rescue.proofs.StateLaws.{sound-good}
use Rattle.store_rescue.specs.Rescue.{has_key, report, report_byte, kept_with, kept_from, report_from}
use Rattle.store_rescue.specs.Kept.{In, Keyed, Keeping, ones}

in-front : (e : Entry) (us vs : List Entry) → In e us → In e (us ++ vs)
in-front e (u ∷ us) vs i = ⊎_elim (λ q. inl q) (λ j. inr (in-front e us vs j)) i
in-front e [] vs i = absurd i

in-back : (e : Entry) (us vs : List Entry) → In e vs → In e (us ++ vs)
in-back e [] vs i = i
in-back e (u ∷ us) vs i = inr (in-back e us vs i)

in_parts : (e : Entry) (us vs : List Entry) → In e (us ++ vs) → In e us ⊎ In e vs
in_parts e [] vs i = inr i
in_parts e (u ∷ us) vs i = ⊎_elim (λ q. inl (inl q)) (λ j. ⊎_elim (λ k. inl (inr k)) (λ k. inr k) (in_parts e us vs j)) i

pub has_in : (k : List ℕ) (es : List Entry) → has_key k es ≡ true → Keyed k es
unfolding has_key
has_in k [] h = absurd (let z : ◌≡◌ {A = ℕ} 0 1 = cc in omega arith)
has_in k (x ∷ xs) h = go (cmp k x.key) refl (λ g. has_in k xs g)
  where
    further : Keyed k xs → Keyed k (x ∷ xs)
    further w = record { entry = w.entry; among = inr w.among; same = w.same }

    go : (o : Ordering) → cmp k x.key ≡ o → (has_key k xs ≡ true → Keyed k xs) → Keyed k (x ∷ xs)
    go Equal q ih = record { entry = x; among = inl refl; same = cmp-equal k x.key q }
    go Less q ih = further (ih (sym (ap (λ (o : Ordering). cond (is_eq o) true (has_key k xs)) q) ∙ h))
    go Greater q ih = further (ih (sym (ap (λ (o : Ordering). cond (is_eq o) true (has_key k xs)) q) ∙ h))

pub in-has : (e : Entry) (es : List Entry) → In e es → has_key e.key es ≡ true
unfolding has_key
in-has e [] i = absurd i
in-has e (x ∷ xs) i =
    ⊎_elim
    (λ q. ap (λ (y : Entry). cond (is_eq (cmp e.key y.key)) true (has_key e.key xs)) (sym q) ∙ ap (λ (o : Ordering). cond (is_eq o) true (has_key e.key xs)) (cmp-refl e.key))
    (λ j. ap (cond (is_eq (cmp e.key x.key)) true) (in-has e xs j) ∙ either (is_eq (cmp e.key x.key))) i
  where
    either : (b : Bool) → cond b true true ≡ true
    either true = refl
    either false = refl

-- ---- an entry put in whose key is not there
record PutIn (e : Entry) (es : List Entry) : Type 0 where
  pub before : List Entry
  pub after : List Entry
  pub whole : es ≡ before ++ after
  pub put : put_entry e es ≡ before ++ (e ∷ after)

put-new : (e : Entry) (es : List Entry) → has_key e.key es ≡ false → PutIn e es
unfolding has_key put_entry by_order
put-new e [] h = record { before = []; after = []; whole = refl; put = refl }
put-new e (x ∷ xs) h = go (cmp e.key x.key) refl (λ g. put-new e xs g)
  where
    go : (o : Ordering) → cmp e.key x.key ≡ o → (has_key e.key xs ≡ false → PutIn e xs) → PutIn e (x ∷ xs)
    go Less q ih = record { before = []; after = x ∷ xs; whole = refl; put = ap (λ (o : Ordering). by_order o (e ∷ x ∷ xs) (e ∷ xs) (x ∷ put_entry e xs)) q }
    go Equal q ih = absurd (let w = sym (ap (λ (o : Ordering). cond (is_eq o) true (has_key e.key xs)) q) ∙ h in let z : ◌≡◌ {A = ℕ} 0 1 = cc in omega arith)
    go Greater q ih =
        let r = ih (sym (ap (λ (o : Ordering). cond (is_eq o) true (has_key e.key xs)) q) ∙ h) in
        record {
          before = x ∷ r.before;
          after = r.after;
          whole = ap (λ (l : List Entry). x ∷ l) r.whole;
          put = ap (λ (o : Ordering). by_order o (e ∷ x ∷ xs) (e ∷ xs) (x ∷ put_entry e xs)) q ∙ ap (λ (l : List Entry). x ∷ l) r.put;
        }

-- ---- a block is kept, or not
one-means : (x : Bool) (s : BlockState) → report x s ≡ 1 → (s ≡ Sound) × (x ≡ false)
unfolding report
one-means x Blank h = absurd (omega arith)
one-means x SumWrong h = absurd (omega arith)
one-means x RuleBroken h = absurd (omega arith)
one-means true Sound h = absurd (omega arith)
one-means false Sound h = (refl, refl)

pub kept_by {ℓ} : {X : Type ℓ} (es : List Entry) (b : List ℕ)
    → (report_byte es b ≡ 1 → BlockGood b → has_key (decode b).key es ≡ false → kept_with es b ≡ put_entry (decode b) es → X)
    → ((report_byte es b ≡ 1 → ⊥) → kept_with es b ≡ es → X) → X
unfolding kept_with report_byte
kept_by {X = X} es b f g = go (eqb (report_byte es b) 1) refl
  where
    go : (x : Bool) → eqb (report_byte es b) 1 ≡ x → X
    go true e =
        let r = eqb-true (report_byte es b) 1 e in
        let w = one-means (has_key (decode b).key es) (state_of b) r in
        f r (sound-good b w.0) w.1 (ap (λ (x : Bool). cond x (put_entry (decode b) es) es) e)
    go false e = g (eqb-false (report_byte es b) 1 e) (ap (λ (x : Bool). cond x (put_entry (decode b) es) es) e)

-- the entries afterwards are those before, and the block's own where it is kept
pub still-in : (e : Entry) (es : List Entry) (b : List ℕ) → In e es → In e (kept_with es b)
still-in e es b i =
    kept_by es b
    (λ r g h q.
    let p = put-new (decode b) es h in
    subst (λ (l : List Entry). In e l) (sym (q ∙ p.put))
    (⊎_elim (λ j. in-front e p.before (decode b ∷ p.after) j) (λ j. in-back e p.before (decode b ∷ p.after) (inr j)) (in_parts e p.before p.after (subst (λ (l : List Entry). In e l) p.whole i))))
    (λ r q. subst (λ (l : List Entry). In e l) (sym q) i)

pub own_in : (es : List Entry) (b : List ℕ) → report_byte es b ≡ 1 → In (decode b) (kept_with es b)
own_in es b o =
    kept_by es b
    (λ r g h q. let p = put-new (decode b) es h in subst (λ (l : List Entry). In (decode b) l) (sym (q ∙ p.put)) (in-back (decode b) p.before (decode b ∷ p.after) (inl refl)))
    (λ r q. absurd (r o))

pub in-with : (e : Entry) (es : List Entry) (b : List ℕ) → In e (kept_with es b) → In e es ⊎ ((report_byte es b ≡ 1) × (e ≡ decode b))
in-with e es b i =
    kept_by es b
    (λ r g h q.
    let p = put-new (decode b) es h in
    ⊎_elim (λ j. inl (subst (λ (l : List Entry). In e l) (sym p.whole) (in-front e p.before p.after j)))
    (λ j. ⊎_elim (λ k. inr (r, k)) (λ k. inl (subst (λ (l : List Entry). In e l) (sym p.whole) (in-back e p.before p.after k))) j)
    (in_parts e p.before (decode b ∷ p.after) (subst (λ (l : List Entry). In e l) (q ∙ p.put) i)))
    (λ r q. inl (subst (λ (l : List Entry). In e l) q i))

pub keeping : (es : List Entry) (bs : List (List ℕ)) → Keeping es → Keeping (kept_from es bs)
unfolding kept_from
keeping es [] k = k
keeping es (b ∷ bs) k = keeping (kept_with es b) bs (next es b k)
  where
    next : (es : List Entry) (b : List ℕ) → Keeping es → Keeping (kept_with es b)
    next es b k =
        kept_by es b
        (λ r g h q. subst (λ (l : List Entry). Keeping l) (sym q) (record { fit = put_fit (decode b) es g.fit k.fit; sorted = put-sorted (decode b) es k.sorted }))
        (λ r q. subst (λ (l : List Entry). Keeping l) (sym q) k)

pub ones-most : (r : List ℕ) → ones r ≤ length r
unfolding ones
ones-most [] = omega arith
ones-most (b ∷ bs) = go (eqb b 1) (ones-most bs)
  where
    go : (x : Bool) → ones bs ≤ length bs → cond x (1 + ones bs) (ones bs) ≤ suc (length bs)
    go true h = omega arith
    go false h = omega arith

pub kept-count : (es : List Entry) (bs : List (List ℕ)) → length (kept_from es bs) ≡ length es + ones (report_from es bs)
unfolding kept_from report_from ones
kept-count es [] = omega arith
kept-count es (b ∷ bs) =
    let ih = kept-count (kept_with es b) bs in
    kept_by es b
    (λ r g h q.
    let p = put-new (decode b) es h in
    let n : length (kept_with es b) ≡ suc (length es) = ap length (q ∙ p.put) ∙ simp length-append (let m = ap length p.whole ∙ length-append p.before p.after in omega arith) in
    let o : ones (report_byte es b ∷ report_from (kept_with es b) bs) ≡ 1 + ones (report_from (kept_with es b) bs) = ap (λ (m : ℕ). cond (eqb m 1) (1 + ones (report_from (kept_with es b) bs)) (ones (report_from (kept_with es b) bs))) r in
    omega arith)
    (λ r q.
    let n = ap length q in
    let o : ones (report_byte es b ∷ report_from (kept_with es b) bs) ≡ ones (report_from (kept_with es b) bs) = ap (λ (x : Bool). cond x (1 + ones (report_from (kept_with es b) bs)) (ones (report_from (kept_with es b) bs))) (ne_eqb (report_byte es b) 1 r) in
    omega arith)
