-- The occurrences of a field: each must decode, and a message inside is read from the concatenation of its occurrences.
use Rattle.std.specs.Prelude.{ℕ, ◌+◌, ◌≤◌, ◌≡◌, refl, Bool, true, false, cond, length, leb, eqb}
use Rattle.std.proofs.Common.{arith, sym, ◌∙◌, subst₂, ap₂, length-append, eqb-true, eq-eqb}
use Rattle.std.proofs.Math.Path.{ap, subst}
use mathlib.Core.List.{List, [], ◌∷◌, ◌++◌, append-nil, flatten}
use Rattle.std.proofs.Math.Option.{Option, none, some}
use Rattle.fields_wire.specs.Wire.{Value, vint, v64, vlen, v32, Field, field, fields_in, fields_of, Framed}
use Rattle.fields_wire.specs.WireLaws.{fields-put}
use Rattle.fields_schema.specs.Rules.{strict_of, rule_of}
use Rattle.fields_schema.specs.Tree.{map_o, then_o, guard, is_some, among, Content, Item, item, decode, add, by_rule, step, items}
use Rattle.fields_schema.specs.Tree.{Tree, done, int, raw, fix, sub, open_all, listed, join, sub_at, tree_in, cons_if, subs_at}
use Rattle.fields_schema.specs.Concat.{once_numbers, tree_numbers, apart, merged, none_twice, once_each, occurrences, field_numbers, Sends, is_once}
use Rattle.fields_schema.specs.PutIn.{Has, Holds}
use Rattle.fields_schema.proofs.MergedLaws.{subs-join, join-all, sub-all, sub-some}
use Rattle.fields_schema.specs.Merged.{join_all, is_cons}
use Rattle.fields_schema.proofs.OnceLaws.{once-numbers, among-append, both-there, numbers-join, once_join, plain-once, count-append, count_none, count-some, twice-count}
use Rattle.fields_schema.specs.Count.{count}
use Rattle.fields_schema.specs.Said.{item_numbers, said}
use Rattle.fields_schema.proofs.ConcatLaws.{framed-said, opened-numbers, said-append, listed-append, listed-framed, first-decodes, rest-decodes}
use Rattle.fields_schema.specs.declared.Kind.{Kind}
use Rattle.fields_schema.proofs.OptionLaws.{nothing-some, then_some, guard-some}
use Rattle.fields_schema.specs.declared.Form.{Form}
use Rattle.fields_schema.specs.declared.Form.TheVariants.{Nested}
use Rattle.fields_schema.specs.declared.Rule.{Rule}
use Rattle.fields_schema.specs.declared.Rule.TheVariants.{Unlisted, Refused, Once, Single, Repeated}

-- one field -----------------------------------------------------------------------------------------------------------------

-- the item of a field: none, if it is not listed, or one of its number
data OneItem (r : Rule) (n : ℕ) : List Item → Type 0 where
  skipped : r ≡ Unlisted → OneItem r n []
  one : (c : Content) → OneItem r n (item n c ∷ [])

one-add : (r : Rule) (n : ℕ) (o : Option Content) {is : List Item} → add n [] o ≡ some is → OneItem r n is
one-add r n none e = nothing-some e
one-add r n (some c) {is} e = let q : item n c ∷ [] ≡ is = cc in subst (λ (l : List Item). OneItem r n l) q (one c)

one-item : (r : Rule) (st : Bool) (n : ℕ) (v : Value) {is : List Item} → by_rule r st n v [] ≡ some is → OneItem r n is
one-item Unlisted true n v e = nothing-some e
one-item Unlisted false n v {is} e = let q : [] ≡ is = cc in subst (λ (l : List Item). OneItem Unlisted n l) q (skipped refl)
one-item Refused st n v e = nothing-some e
one-item (Once f) st n v e = one-add (Once f) n (decode f v) e
one-item (Single f) st n v e = one-add (Single f) n (decode f v) e
one-item (Repeated f) st n v e = one-add (Repeated f) n (decode f v) e

one-said : (k : Kind) (n : ℕ) (v : Value) {t : Tree} → said k (field n v ∷ []) ≡ some t → (is : List Item) × OneItem (rule_of k n) n is × (tree_numbers t ≡ item_numbers is)
unfolding items
one-said k n v e =
    let i = then_some (items k (field n v ∷ []) []) (λ is. open_all (λ k b. listed k b) is) e in
    let j = then_some (step k (field n v) []) (λ a. items k [] a) i.1 in
    let q : j.0 ≡ i.0 = cc j.2 in
    (j.0, one-item (rule_of k n) (strict_of k) n v j.1, opened-numbers (λ k b. listed k b) i.0 i.2 ∙ ap item_numbers (sym q))

-- it has no other number
one-other : (k : Kind) (n m : ℕ) (v : Value) {t : Tree} → eqb n m ≡ false → said k (field m v ∷ []) ≡ some t → among n (tree_numbers t) ≡ false
one-other k n m v e s = let i = one-said k m v s in ap (among n) i.2 ∙ go i.1
  where
    go : {is : List Item} → OneItem (rule_of k m) m is → among n (item_numbers is) ≡ false
    go (skipped u) = refl
    go (one c) = ap (λ t. cond t true false) e

-- one that may be sent only once has its own
one-once : (k : Kind) (n : ℕ) (v : Value) {t : Tree} → among n (once_numbers k) ≡ true → said k (field n v ∷ []) ≡ some t → among n (tree_numbers t) ≡ true
one-once k n v h s = let i = one-said k n v s in ap (among n) i.2 ∙ go i.1
  where
    go : {is : List Item} → OneItem (rule_of k n) n is → among n (item_numbers is) ≡ true
    go (skipped u) = let z : ◌≡◌ {A = ℕ} 0 1 = cc (h, once-numbers k n, ap is_once u) in absurd (omega arith)
    go (one c) = ap (λ t. cond t true false) (eq-eqb n n refl)

abbrev held : Value → Option (List ℕ)
held (vint v) = none
held (v64 b) = none
held (vlen b) = some b
held (v32 b) = none

-- one that holds a message says what that says
message-said : (k : Kind) (n : ℕ) (k' : Kind) (v : Value) → Has (Nested k') (rule_of k n)
    → said k (field n v ∷ []) ≡ then_o (held v) (λ b. map_o (λ u. sub n u done) (listed k' b))
unfolding items open_all
message-said k n k' v h = go (rule_of k n) h
  where
    by : (v : Value) → then_o (then_o (add n [] (decode (Nested k') v)) (λ a. some a)) (λ is. open_all (λ k b. listed k b) is)
        ≡ then_o (held v) (λ b. map_o (λ u. sub n u done) (listed k' b))
    by (vint w) = refl
    by (v64 b) = refl
    by (vlen b) = refl
    by (v32 b) = refl

    form : (f : Form) → Nested k' ≡ f → then_o (then_o (add n [] (decode f v)) (λ a. some a)) (λ is. open_all (λ k b. listed k b) is)
        ≡ then_o (held v) (λ b. map_o (λ u. sub n u done) (listed k' b))
    form f p = ap (λ f. then_o (then_o (add n [] (decode f v)) (λ a. some a)) (λ is. open_all (λ k b. listed k b) is)) (sym p) ∙ by v

    go : (r : Rule) → Has (Nested k') r → then_o (then_o (by_rule r (strict_of k) n v []) (λ a. some a)) (λ is. open_all (λ k b. listed k b) is)
        ≡ then_o (held v) (λ b. map_o (λ u. sub n u done) (listed k' b))
    go Unlisted p = absurd p
    go Refused p = absurd p
    go (Once f) p = form f p
    go (Single f) p = form f p
    go (Repeated f) p = form f p

-- the bytes of one field
pub one-framed : {f : Field} (x : List ℕ) → Framed f x → fields_of x ≡ some (f ∷ [])
unfolding fields_of fields_in
one-framed x h = ap fields_of (sym (append-nil x)) ∙ fields-put [] h

pub held-framed : (n : ℕ) (b x : List ℕ) → Holds n b x → fields_of x ≡ some (field n (vlen b) ∷ [])
held-framed n b x h = one-framed x h

-- a field that holds a message, alone in a message
pub one-message : (k : Kind) (n : ℕ) (k' : Kind) (b x : List ℕ) → Has (Nested k') (rule_of k n) → Holds n b x → listed k x ≡ map_o (λ u. sub n u done) (listed k' b)
one-message k n k' b x h f = framed-said k x (held-framed n b x f) ∙ message-said k n k' (vlen b) h

-- EACH DECODES, of a message inside: wherever it stands, and whatever other occurrences say
pub occurrence-decodes : (k : Kind) (n : ℕ) (k' : Kind) (b a x r : List ℕ) {fs : List Field} → Has (Nested k') (rule_of k n) → fields_of a ≡ some fs → Holds n b x
    → listed k' b ≡ none → listed k (a ++ (x ++ r)) ≡ none
occurrence-decodes k n k' b a x r h e f z =
    rest-decodes k a (x ++ r) e (first-decodes k x r (held-framed n b x f) (one-message k n k' b x h f ∙ ap (map_o (λ u. sub n u done)) z))

-- by the fields, one after another ----------------------------------------------------------------------------------------------

by-fields : (k : Kind) (P : List Field → Tree → Type 0) → P [] done
    → ((f : Field) (fs : List Field) (t u : Tree) → said k (f ∷ []) ≡ some t → apart k t u ≡ true → P fs u → P (f ∷ fs) (join t u))
    → (fs : List Field) {t : Tree} → said k fs ≡ some t → P fs t
unfolding items open_all
by-fields k P z s [] {t} e = let q : done ≡ t = cc in subst (λ (t : Tree). P [] t) q z
by-fields k P z s (f ∷ fs) {t} e =
    let i = then_some (said k (f ∷ [])) (λ t. then_o (said k fs) (λ u. merged k t u)) (sym (said-append k (f ∷ []) fs) ∙ e) in
    let j = then_some (said k fs) (λ u. merged k i.0 u) i.2 in
    let g = guard-some (apart k i.0 j.0) j.2 in
    subst (λ (t : Tree). P (f ∷ fs) t) g.1 (s f fs i.0 j.0 i.1 g.0 (by-fields k P z s fs j.1))

-- a number that may be sent only once is read where it is sent
sent-read : (k : Kind) (n : ℕ) → among n (once_numbers k) ≡ true → (fs : List Field) {t : Tree} → said k fs ≡ some t → among n (tree_numbers t) ≡ among n (field_numbers fs)
sent-read k n h fs e = by-fields k (λ fs t. among n (tree_numbers t) ≡ among n (field_numbers fs)) refl next fs e
  where
    head : (m : ℕ) (v : Value) (t : Tree) (b : Bool) → eqb n m ≡ b → said k (field m v ∷ []) ≡ some t → among n (tree_numbers t) ≡ b
    head m v t false q s = one-other k n m v q s
    head m v t true q s = one-once k n v h (subst (λ (m : ℕ). said k (field m v ∷ []) ≡ some t) (sym (eqb-true n m q)) s)

    next : (f : Field) (fs : List Field) (t u : Tree) → said k (f ∷ []) ≡ some t → apart k t u ≡ true → among n (tree_numbers u) ≡ among n (field_numbers fs)
        → among n (tree_numbers (join t u)) ≡ among n (field_numbers (f ∷ fs))
    next (field m v) fs t u s d ih =
        ap (among n) (numbers-join t u) ∙ among-append n (tree_numbers t) (tree_numbers u) ∙ ap (λ b. cond b true (among n (tree_numbers u))) (head m v t (eqb n m) refl s)
        ∙ ap (cond (eqb n m) true) ih

-- ONCE: a number that may be sent only once, in both of two messages
pub once-twice : (k : Kind) (n : ℕ) (x y : List ℕ) → among n (once_numbers k) ≡ true → Sends n x → Sends n y → listed k (x ++ y) ≡ none
once-twice k n x y h p q =
    listed-append k x y p.framed
    ∙ go (listed k x) (listed k y) (λ t e. sent-read k n h p.fields (sym (framed-said k x p.framed) ∙ e) ∙ p.there)
    (λ u e. sent-read k n h q.fields (sym (framed-said k y q.framed) ∙ e) ∙ q.there)
  where
    go : (o o' : Option Tree) → ((t : Tree) → o ≡ some t → among n (tree_numbers t) ≡ true) → ((u : Tree) → o' ≡ some u → among n (tree_numbers u) ≡ true)
        → then_o o (λ t. then_o o' (λ u. merged k t u)) ≡ none
    go none o' f g = refl
    go (some t) none f g = refl
    go (some t) (some u) f g = ap (λ b. guard b (join t u)) (both-there n (once_numbers k) (tree_numbers t) (tree_numbers u) h (f t refl) (g u refl))

-- a message inside ----------------------------------------------------------------------------------------------------------------

not-either : (p q : Bool) → cond p true q ≡ false → (p ≡ false) × (q ≡ false)
not-either true q e = let z : ◌≡◌ {A = ℕ} 0 1 = cc in absurd (omega arith)
not-either false q e = (refl, e)

unsent : (n : ℕ) (t : Tree) → among n (tree_numbers t) ≡ false → subs_at n t ≡ []
unsent n done h = refl
unsent n (int m v t) h = unsent n t (not-either (eqb n m) (among n (tree_numbers t)) h).1
unsent n (raw m b t) h = unsent n t (not-either (eqb n m) (among n (tree_numbers t)) h).1
unsent n (fix m b t) h = unsent n t (not-either (eqb n m) (among n (tree_numbers t)) h).1
unsent n (sub m s t) h =
    let i = not-either (eqb n m) (among n (tree_numbers t)) h in ap (λ b. cons_if b s (subs_at n t)) i.0 ∙ unsent n t i.1

-- one field: none of the occurrences of n, or one that decodes
data OnePart (n : ℕ) (k' : Kind) (f : Field) (t : Tree) : Type 0 where
  other : among n (tree_numbers t) ≡ false → ((fs : List Field) → occurrences n (f ∷ fs) ≡ occurrences n fs) → OnePart n k' f t
  this : (b : List ℕ) (u : Tree) → listed k' b ≡ some u → t ≡ sub n u done → ((fs : List Field) → occurrences n (f ∷ fs) ≡ b ∷ occurrences n fs) → OnePart n k' f t

one-part : (k : Kind) (n : ℕ) (k' : Kind) (f : Field) {t : Tree} → Has (Nested k') (rule_of k n) → said k (f ∷ []) ≡ some t → OnePart n k' f t
one-part k n k' (field m v) {t} h e = go (eqb n m) refl
  where
    passed : (v : Value) → eqb n m ≡ false → (fs : List Field) → occurrences n (field m v ∷ fs) ≡ occurrences n fs
    passed (vint w) q fs = refl
    passed (v64 b) q fs = refl
    passed (vlen b) q fs = ap (λ t. cons_if t b (occurrences n fs)) q
    passed (v32 b) q fs = refl

    mapped : (b : List ℕ) (o : Option Tree) → eqb n m ≡ true → listed k' b ≡ o → map_o (λ u. sub n u done) o ≡ some t → OnePart n k' (field m (vlen b)) t
    mapped b none q l e = nothing-some e
    mapped b (some u) q l e = this b u l (cc) (λ fs. ap (λ t. cons_if t b (occurrences n fs)) q)

    by : (v : Value) → eqb n m ≡ true → then_o (held v) (λ b. map_o (λ u. sub n u done) (listed k' b)) ≡ some t → OnePart n k' (field m v) t
    by (vint w) q e = nothing-some e
    by (v64 b) q e = nothing-some e
    by (vlen b) q e = mapped b (listed k' b) q refl e
    by (v32 b) q e = nothing-some e

    go : (b : Bool) → eqb n m ≡ b → OnePart n k' (field m v) t
    go false q = other (one-other k n m v q e) (passed v q)
    go true q = by v q (sym (message-said k n k' v h) ∙ subst (λ (m : ℕ). said k (field m v ∷ []) ≡ some t) (sym (eqb-true n m q)) e)

-- a number that holds messages is there as often as they are
record Counted (n : ℕ) (t : Tree) : Type 0 where
  is : count n (tree_numbers t) ≡ length (subs_at n t)

counted-join : (n : ℕ) (t u : Tree) → Counted n t → Counted n u → Counted n (join t u)
counted-join n t u p q =
    record {
      is =
          ap (count n) (numbers-join t u) ∙ count-append n (tree_numbers t) (tree_numbers u) ∙ ap₂ (λ a b. a + b) p.is q.is
          ∙ sym (ap length (subs-join n t u) ∙ length-append (subs_at n t) (subs_at n u));
    }

counted : (k : Kind) (n : ℕ) (k' : Kind) → Has (Nested k') (rule_of k n) → (fs : List Field) {t : Tree} → said k fs ≡ some t → Counted n t
counted k n k' h fs e = by-fields k (λ fs t. Counted n t) (record { is = refl }) (λ f fs t u s d q. counted-join n t u (go (one-part k n k' f h s)) q) fs e
  where
    go : {f : Field} {t : Tree} → OnePart n k' f t → Counted n t
    go {f} {t} (other q o) = record { is = count_none n (tree_numbers t) q ∙ sym (ap length (unsent n t q)) }
    go {f} {t} (this b u l q o) = subst (λ (t : Tree). Counted n t) (sym q) (record { is = rw (eq-eqb n n refl) refl })

-- such a number that may be sent only once is there where it is sent
pub once-there : (k : Kind) (n : ℕ) (k' : Kind) (m : List ℕ) {t : Tree} → among n (once_numbers k) ≡ true → Has (Nested k') (rule_of k n) → Sends n m
    → listed k m ≡ some t → 1 ≤ length (subs_at n t)
once-there k n k' m {t} o h f e =
    let s : said k f.fields ≡ some t = sym (framed-said k m f.framed) ∙ e in
    omega (arith, (counted k n k' h f.fields s).is, count-some n (tree_numbers t) (sent-read k n o f.fields s ∙ f.there))

-- what decodes has no number twice that may be sent only once
said-once : (k : Kind) (fs : List Field) {t : Tree} → said k fs ≡ some t → once_each k t ≡ true
said-once k fs e = by-fields k (λ fs t. once_each k t ≡ true) refl next fs e
  where
    one_each : (n : ℕ) {r : Rule} {is : List Item} → OneItem r n is → none_twice (once_numbers k) (item_numbers is) ≡ true
    one_each n (skipped u) = refl
    one_each n (one c) = go (among n (once_numbers k))
      where
        go : (b : Bool) → cond (cond b false false) false true ≡ true
        go true = refl
        go false = refl

    next : (f : Field) (fs : List Field) (t u : Tree) → said k (f ∷ []) ≡ some t → apart k t u ≡ true → once_each k u ≡ true → once_each k (join t u) ≡ true
    next (field m v) fs t u s d ih =
        let i = one-said k m v s in
        once_join k t u (ap (none_twice (once_numbers k)) i.2 ∙ one_each m i.1) ∙ ap (λ b. cond b (once_each k u) false) d ∙ ih

pub listed-once : (k : Kind) (m : List ℕ) {t : Tree} → listed k m ≡ some t → once_each k t ≡ true
listed-once k m e = let i = listed-framed k m e in said-once k i.0 i.2

-- one that decodes, before the rest
merged-once : (k : Kind) (t u : Tree) → once_each k t ≡ true → then_o (guard (once_each k u) u) (λ u. merged k t u) ≡ guard (once_each k (join t u)) (join t u)
merged-once k t u h = go (once_each k u) (apart k t u) refl ∙ ap (λ b. guard b (join t u)) (sym (once_join k t u h))
  where
    go : (p q : Bool) → apart k t u ≡ q → then_o (guard p u) (λ u. merged k t u) ≡ guard (cond q p false) (join t u)
    go true true e = ap (λ q. guard q (join t u)) e
    go true false e = ap (λ q. guard q (join t u)) e
    go false true e = refl
    go false false e = refl

nothing-says : (k : Kind) → listed k [] ≡ some done
unfolding fields_of fields_in items open_all
nothing-says k = framed-said k [] refl

module _ (k : Kind) (n : ℕ) (k' : Kind) (m : List ℕ) {fs : List Field} {t : Tree} (h : Has (Nested k') (rule_of k n)) (framed : fields_of m ≡ some fs)
    (decodes : listed k m ≡ some t) where
  -- each occurrence decodes: what holds of none, and of one before others, holds of all
  by-occurrences : (P : List (List ℕ) → List Tree → Type 0) → P [] []
      → ((b : List ℕ) (bs : List (List ℕ)) (u : Tree) (us : List Tree) → listed k' b ≡ some u → P bs us → P (b ∷ bs) (u ∷ us))
      → P (occurrences n fs) (subs_at n t)
  by-occurrences P z s = by-fields k (λ fs t. P (occurrences n fs) (subs_at n t)) z next fs (sym (framed-said k m framed) ∙ decodes)
    where
      go : {f : Field} {t : Tree} (fs : List Field) (u : Tree) → OnePart n k' f t → P (occurrences n fs) (subs_at n u)
          → P (occurrences n (f ∷ fs)) (subs_at n (join t u))
      go {f} {t} fs u (other q o) ih = subst₂ P (sym (o fs)) (sym (subs-join n t u ∙ ap (λ l. l ++ subs_at n u) (unsent n t q))) ih
      go {f} {t} fs u (this b x l q o) ih =
          subst₂ P (sym (o fs)) (sym (subs-join n t u ∙ ap (λ l. l ++ subs_at n u) (ap (subs_at n) q ∙ ap (λ c. cons_if c x []) (eq-eqb n n refl))))
          (s b (occurrences n fs) x (subs_at n u) l ih)

      next : (f : Field) (fs : List Field) (t u : Tree) → said k (f ∷ []) ≡ some t → apart k t u ≡ true → P (occurrences n fs) (subs_at n u)
          → P (occurrences n (f ∷ fs)) (subs_at n (join t u))
      next f fs t u e d ih = go fs u (one-part k n k' f h e) ih

  -- A PART OF A MESSAGE is read from the concatenation of its occurrences; nothing where a number that may be sent only once is in it twice
  pub part-concat : listed k' (flatten (occurrences n fs)) ≡ guard (once_each k' (tree_in (sub_at n t))) (tree_in (sub_at n t))
  unfolding flatten
  part-concat =
      subst (λ (u : Tree). listed k' (flatten (occurrences n fs)) ≡ guard (once_each k' u) u) (sym (sub-all n t))
      (by-occurrences (λ bs us. listed k' (flatten bs) ≡ guard (once_each k' (join_all done us)) (join_all done us)) (nothing-says k') next)
    where
      next : (b : List ℕ) (bs : List (List ℕ)) (u : Tree) (us : List Tree) → listed k' b ≡ some u
          → listed k' (flatten bs) ≡ guard (once_each k' (join_all done us)) (join_all done us)
          → listed k' (b ++ flatten bs) ≡ guard (once_each k' (join_all u us)) (join_all u us)
      next b bs u us e ih =
          listed-append k' b (flatten bs) (listed-framed k' b e).1
          ∙ ap (λ o. then_o o (λ t. then_o (listed k' (flatten bs)) (λ u. merged k' t u))) e ∙ ap (λ o. then_o o (λ v. merged k' u v)) ih
          ∙ merged-once k' u (join_all done us) (listed-once k' b e) ∙ ap (λ x. guard (once_each k' x) x) (sym (join-all u us))

  -- it is there where it is sent
  pub part-sent : is_some (sub_at n t) ≡ is_cons (occurrences n fs)
  part-sent = sub-some n t ∙ by-occurrences (λ bs us. is_cons us ≡ is_cons bs) refl (λ b bs u us e ih. refl)

  -- both in one
  pub part-is : once_each k' (tree_in (sub_at n t)) ≡ true → sub_at n t ≡ cond (is_cons (occurrences n fs)) (listed k' (flatten (occurrences n fs))) none
  part-is o = go (sub_at n t) part-sent (part-concat ∙ ap (λ b. guard b (tree_in (sub_at n t))) o)
    where
      go : (x : Option Tree) → is_some x ≡ is_cons (occurrences n fs) → listed k' (flatten (occurrences n fs)) ≡ some (tree_in x)
          → x ≡ cond (is_cons (occurrences n fs)) (listed k' (flatten (occurrences n fs))) none
      go none p q = ap (λ b. cond b (listed k' (flatten (occurrences n fs))) none) p
      go (some u) p q = sym q ∙ ap (λ b. cond b (listed k' (flatten (occurrences n fs))) none) p

  -- in a kind without numbers that may be sent only once
  pub part-plain : once_numbers k' ≡ [] → sub_at n t ≡ cond (is_cons (occurrences n fs)) (listed k' (flatten (occurrences n fs))) none
  part-plain o = part-is (plain-once k' (tree_in (sub_at n t)) o)

  -- where k' has one number that may be sent only once, and it holds messages: they are counted
  pub part-once : (j : ℕ) (k'' : Kind) → once_numbers k' ≡ j ∷ [] → Has (Nested k'') (rule_of k' j)
      → once_each k' (tree_in (sub_at n t)) ≡ leb (length (subs_at j (tree_in (sub_at n t)))) 1
  part-once j k'' o g =
      ap (λ os. none_twice os (tree_numbers (tree_in (sub_at n t)))) o ∙ twice-count j (tree_numbers (tree_in (sub_at n t)))
      ∙ ap (λ c. leb c 1) (subst (λ (u : Tree). Counted j u) (sym (sub-all n t)) (by-occurrences (λ bs us. Counted j (join_all done us)) (record { is = refl }) next)).is
    where
      next : (b : List ℕ) (bs : List (List ℕ)) (u : Tree) (us : List Tree) → listed k' b ≡ some u → Counted j (join_all done us) → Counted j (join_all u us)
      next b bs u us e ih =
          let i = listed-framed k' b e in
          subst (λ (u : Tree). Counted j u) (sym (join-all u us)) (counted-join j u (join_all done us) (counted k' j k'' g i.0 i.2) ih)
