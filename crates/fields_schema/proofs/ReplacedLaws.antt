-- The listed bytes that count can be any others.
use Rattle.std.specs.Prelude.{ℕ, ◌+◌, ◌^◌, ◌≤◌, ◌<◌, ◌≡◌, refl, ◌⊎◌, List, [], ◌∷◌, ◌++◌, Bool, true, false, length, eqb}
use Rattle.std.proofs.Common.{arith, sym, ap, ◌∙◌, subst, inl, inr, append_assoc, length-append, eqb-true, eq-eqb}
use Rattle.std.proofs.Math.Option.{Option, none, some}
use Rattle.fields_wire.specs.Reader.{Got, nothing, got}
use Rattle.fields_wire.specs.Wire.{Value, vint, v64, vlen, v32, Field, field, read_field, cons_o, then_fields, fields_in, fields_of, Framed}
use Rattle.fields_wire.specs.WireLaws.{fields-front, fields-put}
use Rattle.fields_schema.specs.Rules.{strict_of, rule_of}
use Rattle.fields_schema.specs.Tree.{map_o, then_o, guard, Content, c_int, c_raw, c_fix, c_msg, decode, add, by_rule, items}
use Rattle.fields_schema.specs.Tree.{Tree, done, int, raw, fix, sub, open_one, open_all, listed, later, int_at, raw_at, join, join_o, sub_at}
use Rattle.fields_schema.specs.Concat.{once_numbers}
use Rattle.fields_schema.specs.PutIn.{Has, Holds, Replaces, PutIn}
use Rattle.fields_schema.specs.Merged.{joined}
use Rattle.fields_schema.proofs.MergedLaws.{later-none, int-join, raw-join, join-assoc, sub-join}
use Rattle.fields_schema.proofs.OptionLaws.{never, nothing-some, then_some, guard-some}
use Rattle.fields_schema.specs.Said.{said}
use Rattle.fields_schema.proofs.ConcatLaws.{framed-said, merge-plain, listed-framed, listed-split}
use Rattle.fields_schema.proofs.OccurrenceLaws.{one-framed, one-message}
use Rattle.fields_schema.proofs.FrontLaws.{field-front, framed-other, framed-length}
use Rattle.fields_schema.proofs.BoundariesLaws.{fields-stay}
use Rattle.fields_schema.proofs.LevelLaws.{one_form}
use Rattle.fields_schema.specs.Replaced.{Replaced, ReplacedInside}
use Rattle.fields_schema.specs.declared.Kind.{Kind}
use Rattle.fields_schema.specs.declared.Form.{Form}
use Rattle.fields_schema.specs.declared.Form.TheVariants.{Bytes, Nested}
use Rattle.fields_schema.specs.declared.Rule.{Rule}
use Rattle.fields_schema.specs.declared.Rule.TheVariants.{Unlisted, Refused, Once, Single, Repeated}

-- the first field of some bytes --------------------------------------------------------------------------------------------

record Front (f : Field) (fs : List Field) (m : List ℕ) : Type 0 where
  first : List ℕ
  rest : List ℕ
  split : m ≡ first ++ rest
  framed : Framed f first
  left : fields_of rest ≡ some fs

cons-some : (g : Field) (o : Option (List Field)) {f : Field} {fs : List Field} → cons_o g o ≡ some (f ∷ fs) → (g ≡ f) × (o ≡ some fs)
cons-some g none e = nothing-some e
cons-some g (some gs) {f} {fs} e = let p : g ≡ f = cc in let q : gs ≡ fs = cc in (p, ap some q)

no_fields : fields_of [] ≡ some []
unfolding fields_of fields_in
no_fields = refl

cut : (b : ℕ) (m : List ℕ) → read_field (b ∷ m) ≡ nothing → fields_of (b ∷ m) ≡ none
unfolding fields_of fields_in
cut b m q = ap (λ o. then_fields o (λ r. fields_in (length m) r)) q

front_of : (m : List ℕ) {f : Field} {fs : List Field} → fields_of m ≡ some (f ∷ fs) → Front f fs m
front_of [] {f} {fs} e = let z = sym no_fields ∙ e in never (cc)
front_of (b ∷ m) {f} {fs} e = go (read_field (b ∷ m)) refl
  where
    go : (o : Got Field) → read_field (b ∷ m) ≡ o → Front f fs (b ∷ m)
    go nothing q = nothing-some (sym (cut b m q) ∙ e)
    go (got g r) q =
        let x = field-front (b ∷ m) q in
        let h = cons-some g (fields_of r) (sym (fields-front (b ∷ m) q) ∙ e) in
        record { first = x.0; rest = r; split = x.1; framed = subst (λ f. Framed f x.0) h.0 x.2; left = h.1 }

-- the last field in which a look-up finds something --------------------------------------------------------------------------

-- a look-up in which the later counts
record LastCounts {A : Type 0} (look : Tree → Option A) : Type 0 where
  in_none : look done ≡ none
  in_both : (t u : Tree) → look (join t u) ≡ later (look u) (look t)

ints-last : (n : ℕ) → LastCounts (λ t. int_at n t)
ints-last n = record { in_none = refl; in_both = λ t u. int-join n t u }

raws-last : (n : ℕ) → LastCounts (λ t. raw_at n t)
raws-last n = record { in_none = refl; in_both = λ t u. raw-join n t u }

within-last : {A : Type 0} (n : ℕ) (look : Tree → Option A) → LastCounts look → LastCounts (λ t. then_o (sub_at n t) look)
within-last n look l = record { in_none = refl; in_both = λ t u. ap (λ o. then_o o look) (sub-join n t u) ∙ go (sub_at n t) (sub_at n u) }
  where
    go : (o p : Option Tree) → then_o (joined o p) look ≡ later (then_o p look) (then_o o look)
    go none p = sym (later-none (then_o p look))
    go (some t) none = refl
    go (some t) (some u) = l.in_both t u

record Last {A : Type 0} (look : Tree → Option A) (k : Kind) (m : List ℕ) (t : Tree) (a : A) : Type 0 where
  before : List ℕ
  bytes : List ℕ
  after : List ℕ
  split : m ≡ before ++ (bytes ++ after)
  fields : List Field
  whole : fields_of before ≡ some fields
  one : Field
  framed : Framed one bytes
  first : Tree
  own : Tree
  rest : Tree
  first_says : listed k before ≡ some first
  own_says : listed k bytes ≡ some own
  rest_says : listed k after ≡ some rest
  is : join first (join own rest) ≡ t
  found : look own ≡ some a
  none_later : look rest ≡ none

nothing_said : (k : Kind) (m : List ℕ) {t : Tree} → fields_of m ≡ some [] → listed k m ≡ some t → t ≡ done
unfolding items open_all
nothing_said k m {t} e l = let z : ◌≡◌ {A = Option Tree} (some done) (some t) = sym (framed-said k m e) ∙ l in cc

empty-says : (k : Kind) → listed k [] ≡ some done
unfolding items open_all
empty-says k = framed-said k [] no_fields

module _ {A : Type 0} (look : Tree → Option A) (l : LastCounts look) (k : Kind) (plain : once_numbers k ≡ []) where
  last-field : (fs : List Field) (m : List ℕ) {t : Tree} {a : A} → fields_of m ≡ some fs → listed k m ≡ some t → look t ≡ some a → Last look k m t a
  last-field [] m {t} e s q = nothing-some (sym l.in_none ∙ ap look (sym (nothing_said k m e s)) ∙ q)
  last-field (f ∷ fs) m {t} {a} e s q =
      let x = front_of m e in
      let i = one-framed x.first x.framed in
      let j = listed-split k x.first x.rest i (ap (listed k) (sym x.split) ∙ s) in
      let z : later (look j.1) (look j.0) ≡ some a = sym (l.in_both j.0 j.1) ∙ ap look j.4 ∙ q in
      go x i j.0 j.1 j.2 j.3 j.4 (look j.1) refl z (λ a q. last-field fs x.rest {t = j.1} {a = a} x.left j.3 q)
    where
      go : (x : Front f fs m) → fields_of x.first ≡ some (f ∷ []) → (t₁ t₂ : Tree) → listed k x.first ≡ some t₁ → listed k x.rest ≡ some t₂ → join t₁ t₂ ≡ t
          → (o : Option A) → look t₂ ≡ o → later o (look t₁) ≡ some a → ((b : A) → look t₂ ≡ some b → Last look k x.rest t₂ b) → Last look k m t a
      go x i t₁ t₂ p₁ p₂ j none o z f =
          record {
            before = [];
            bytes = x.first;
            after = x.rest;
            split = x.split;
            fields = [];
            whole = no_fields;
            one = _;
            framed = x.framed;
            first = done;
            own = t₁;
            rest = t₂;
            first_says = empty-says k;
            own_says = p₁;
            rest_says = p₂;
            is = j;
            found = z;
            none_later = o;
          }
      go x i t₁ t₂ p₁ p₂ j (some b) o z f =
          let y : b ≡ a = cc in
          let w = f a (o ∙ ap some y) in
          record {
            before = x.first ++ w.before;
            bytes = w.bytes;
            after = w.after;
            split = x.split ∙ ap (λ r. x.first ++ r) w.split ∙ sym (append_assoc x.first w.before (w.bytes ++ w.after));
            fields = _ ∷ w.fields;
            whole = fields-put w.before x.framed ∙ ap (cons_o _) w.whole;
            one = w.one;
            framed = w.framed;
            first = join t₁ w.first;
            own = w.own;
            rest = w.rest;
            first_says = merge-plain k x.first w.before plain p₁ w.first_says;
            own_says = w.own_says;
            rest_says = w.rest_says;
            is = join-assoc t₁ w.first (join w.own w.rest) ∙ ap (join t₁) w.is ∙ j;
            found = w.found;
            none_later = w.none_later;
          }

  last_of : (m : List ℕ) {t : Tree} {a : A} → listed k m ≡ some t → look t ≡ some a → Last look k m t a
  last_of m s q = let f = listed-framed k m s in last-field f.0 m f.1 s q

-- what a field says by itself ------------------------------------------------------------------------------------------------

-- its form, and what the form makes of its value
record SaidAlone (k : Kind) (i : ℕ) (v : Value) (t : Tree) : Type 0 where
  form : Form
  has : Has form (rule_of k i)
  content : Content
  is : decode form v ≡ some content
  opens : open_one (λ k b. listed k b) i content done ≡ some t

said-alone : (k : Kind) (i : ℕ) (v : Value) {t : Tree} → said k (field i v ∷ []) ≡ some t → (t ≡ done) ⊎ SaidAlone k i v t
unfolding items open_all
said-alone k i v {t} e = go (rule_of k i) refl e
  where
    lax : (b : Bool) → then_o (then_o (by_rule Unlisted b i v []) (λ a. some a)) (λ is. open_all (λ k b. listed k b) is) ≡ some t → t ≡ done
    lax true e = nothing-some e
    lax false e = cc

    by : (f : Form) → Has f (rule_of k i) → (o : Option Content) → decode f v ≡ o
        → then_o (then_o (add i [] o) (λ a. some a)) (λ is. open_all (λ k b. listed k b) is) ≡ some t → SaidAlone k i v t
    by f h none d e = nothing-some e
    by f h (some c) d e = record { form = f; has = h; content = c; is = d; opens = e }

    of : (f : Form) (r : Rule) → rule_of k i ≡ r → Has f r → Has f (rule_of k i)
    of f r u h = subst (λ (r : Rule). Has f r) (sym u) h

    go : (r : Rule) → rule_of k i ≡ r → then_o (then_o (by_rule r (strict_of k) i v []) (λ a. some a)) (λ is. open_all (λ k b. listed k b) is) ≡ some t → (t ≡ done) ⊎ SaidAlone k i v t
    go Unlisted u e = inl (lax (strict_of k) e)
    go Refused u e = nothing-some e
    go (Once f) u e = inr (by f (of f (Once f) u refl) (decode f v) refl e)
    go (Single f) u e = inr (by f (of f (Single f) u refl) (decode f v) refl e)
    go (Repeated f) u e = inr (by f (of f (Repeated f) u refl) (decode f v) refl e)

bytes_of : (v : Value) {a : List ℕ} → decode Bytes v ≡ some (c_raw a) → v ≡ vlen a
bytes_of (vint w) e = nothing-some e
bytes_of (v64 b) e = nothing-some e
bytes_of (vlen b) e = cc
bytes_of (v32 b) e = nothing-some e

message-of : (k : Kind) (v : Value) {j : Kind} {a : List ℕ} → decode (Nested k) v ≡ some (c_msg j a) → (v ≡ vlen a) × (j ≡ k)
message-of k (vint w) e = nothing-some e
message-of k (v64 b) e = nothing-some e
message-of k (vlen b) e = (cc, cc)
message-of k (v32 b) e = nothing-some e

-- bytes are found in it: it is the field of these bytes
own-bytes : (k : Kind) (n i : ℕ) (v : Value) {t : Tree} {b : List ℕ} → Has Bytes (rule_of k n) → said k (field i v ∷ []) ≡ some t → raw_at n t ≡ some b
    → (field i v ≡ field n (vlen b)) × (t ≡ raw n b done)
own-bytes k n i v {t} {b} h e q = go (said-alone k i v e)
  where
    by : (f : Form) → Has f (rule_of k i) → (c : Content) → decode f v ≡ some c → open_one (λ k b. listed k b) i c done ≡ some t
        → (field i v ≡ field n (vlen b)) × (t ≡ raw n b done)
    by f g (c_int w) d o = let z : int i w done ≡ t = cc in nothing-some (ap (raw_at n) z ∙ q)
    by f g (c_fix w) d o = let z : fix i w done ≡ t = cc in nothing-some (ap (raw_at n) z ∙ q)
    by f g (c_raw a) d o =
        let z : raw i a done ≡ t = cc in
        let w = guard-some (eqb n i) (ap (raw_at n) z ∙ q) in
        let x : n ≡ i = eqb-true n i w.0 in
        let y : f ≡ Bytes = one_form (rule_of k i) g (subst (λ i. Has Bytes (rule_of k i)) x h) in
        let u : v ≡ vlen a = bytes_of v (ap (λ f. decode f v) (sym y) ∙ d) in
        (cc, cc)
    by f g (c_msg j a) d o = mapped (listed j a) o
      where
        mapped : (p : Option Tree) → map_o (λ s. sub i s done) p ≡ some t → (field i v ≡ field n (vlen b)) × (t ≡ raw n b done)
        mapped none o = nothing-some o
        mapped (some s) o = let z : sub i s done ≡ t = cc in nothing-some (ap (raw_at n) z ∙ q)

    go : (t ≡ done) ⊎ SaidAlone k i v t → (field i v ≡ field n (vlen b)) × (t ≡ raw n b done)
    go (inl z) = nothing-some (ap (raw_at n) (sym z) ∙ q)
    go (inr x) = by x.form x.has x.content x.is x.opens

-- a message is found in it
record OwnMessage (k' : Kind) (n : ℕ) (f : Field) (t u : Tree) : Type 0 where
  bytes : List ℕ
  holds : f ≡ field n (vlen bytes)
  says : listed k' bytes ≡ some u
  is : t ≡ sub n u done

own-message : (k : Kind) (n : ℕ) (k' : Kind) (i : ℕ) (v : Value) {t u : Tree} → Has (Nested k') (rule_of k n) → said k (field i v ∷ []) ≡ some t → sub_at n t ≡ some u
    → OwnMessage k' n (field i v) t u
own-message k n k' i v {t} {u} h e q = go (said-alone k i v e)
  where
    by : (f : Form) → Has f (rule_of k i) → (c : Content) → decode f v ≡ some c → open_one (λ k b. listed k b) i c done ≡ some t → OwnMessage k' n (field i v) t u
    by f g (c_int w) d o = let z : int i w done ≡ t = cc in nothing-some (ap (sub_at n) z ∙ q)
    by f g (c_fix w) d o = let z : fix i w done ≡ t = cc in nothing-some (ap (sub_at n) z ∙ q)
    by f g (c_raw a) d o = let z : raw i a done ≡ t = cc in nothing-some (ap (sub_at n) z ∙ q)
    by f g (c_msg j a) d o = mapped (listed j a) refl o
      where
        joins : (b : Bool) (s : Tree) → join_o b s none ≡ some u → (b ≡ true) × (s ≡ u)
        joins true s w = (refl, cc)
        joins false s w = nothing-some w

        mapped : (p : Option Tree) → listed j a ≡ p → map_o (λ s. sub i s done) p ≡ some t → OwnMessage k' n (field i v) t u
        mapped none l o = nothing-some o
        mapped (some s) l o =
            let z : sub i s done ≡ t = cc in
            let w = joins (eqb n i) s (ap (sub_at n) z ∙ q) in
            let x : n ≡ i = eqb-true n i w.0 in
            let y : f ≡ Nested k' = one_form (rule_of k i) g (subst (λ i. Has (Nested k') (rule_of k i)) x h) in
            let r = message-of k' v (ap (λ f. decode f v) (sym y) ∙ d) in
            let r0 = r.0 in
            let w1 = w.1 in
            record { bytes = a; holds = cc; says = ap (λ j. listed j a) (sym r.1) ∙ l ∙ ap some w.1; is = cc }

    go : (t ≡ done) ⊎ SaidAlone k i v t → OwnMessage k' n (field i v) t u
    go (inl z) = nothing-some (ap (sub_at n) (sym z) ∙ q)
    go (inr x) = by x.form x.has x.content x.is x.opens

-- the last one replaced ------------------------------------------------------------------------------------------------------

-- a later one is found, else the earlier
last_found : {A : Type 0} {look : Tree → Option A} → LastCounts look → (t own rest : Tree) {a : A} → look own ≡ some a → look rest ≡ none → look (join t (join own rest)) ≡ some a
last_found {A} {look} l t own rest {a} f n =
    l.in_both t (join own rest) ∙ ap (λ o. later o (look t)) (l.in_both own rest ∙ ap (λ o. later o (look own)) n ∙ f)

-- what is found alike in it is found alike
alike : {A : Type 0} {look : Tree → Option A} → LastCounts look → (t own own' rest : Tree) → look own' ≡ look own → look (join t (join own' rest)) ≡ look (join t (join own rest))
alike {A} {look} l t own own' rest e =
    l.in_both t (join own' rest) ∙ ap (λ o. later o (look t)) (l.in_both own' rest ∙ ap (later (look rest)) e ∙ sym (l.in_both own rest)) ∙ sym (l.in_both t (join own rest))

subs-alike : (i : ℕ) (t own own' rest : Tree) → sub_at i own' ≡ sub_at i own → sub_at i (join t (join own' rest)) ≡ sub_at i (join t (join own rest))
subs-alike i t own own' rest e =
    sub-join i t (join own' rest) ∙ ap (joined (sub_at i t)) (sub-join i own' rest ∙ ap (λ o. joined o (sub_at i rest)) e ∙ sym (sub-join i own rest)) ∙ sym (sub-join i t (join own rest))

three-long : (a b c : List ℕ) → length (a ++ (b ++ c)) ≡ length a + (length b + length c)
three-long a b c = length-append a (b ++ c) ∙ ap (λ n. length a + n) (length-append b c)

held_by : {n : ℕ} {b x : List ℕ} (f : Field) → Framed f x → f ≡ field n (vlen b) → Holds n b x
held_by {n} {b} {x} f h e = subst (λ f. Framed f x) e h

bytes-alone : (k : Kind) (n : ℕ) (b : List ℕ) → Has Bytes (rule_of k n) → said k (field n (vlen b) ∷ []) ≡ some (raw n b done)
unfolding items open_all
bytes-alone k n b h = go (rule_of k n) h
  where
    by : (f : Form) → Bytes ≡ f → then_o (then_o (add n [] (decode f (vlen b))) (λ a. some a)) (λ is. open_all (λ k b. listed k b) is) ≡ some (raw n b done)
    by f e = ap (λ f. then_o (then_o (add n [] (decode f (vlen b))) (λ a. some a)) (λ is. open_all (λ k b. listed k b) is)) (sym e)

    go : (r : Rule) → Has Bytes r → then_o (then_o (by_rule r (strict_of k) n (vlen b) []) (λ a. some a)) (λ is. open_all (λ k b. listed k b) is) ≡ some (raw n b done)
    go Unlisted h = absurd h
    go Refused h = absurd h
    go (Once f) h = by f h
    go (Single f) h = by f h
    go (Repeated f) h = by f h

-- the last field of bytes
module _ (k : Kind) (n : ℕ) (m b : List ℕ) {t : Tree} (plain : once_numbers k ≡ []) (h : Has Bytes (rule_of k n)) (x : Last (λ t. raw_at n t) k m t b) where
  own : (f : Field) (y : List ℕ) {u : Tree} → Framed f y → listed k y ≡ some u → raw_at n u ≡ some b → (f ≡ field n (vlen b)) × (u ≡ raw n b done)
  own (field i v) y f r z = own-bytes k n i v h (sym (framed-said k y (one-framed y f)) ∙ r) z

  own-field : (x.one ≡ field n (vlen b)) × (x.own ≡ raw n b done)
  own-field = own x.one x.bytes x.framed x.own_says x.found

  own-holds : Holds n b x.bytes
  own-holds = held_by x.one x.framed own-field.0

  own-length : length b ≤ length m
  own-length = omega (arith, ap length x.split, three-long x.before x.bytes x.after, framed-length own-holds)

  -- with others in its place
  other-bytes : (R : Replaces) (b' y : List ℕ) → R k n b b' → Holds n b' y → length y ≤ 20 + length b' → Replaced R k n b b' m t
  other-bytes R b' y w g l =
      record {
        message = x.before ++ (y ++ x.after);
        tree = join x.first (join (raw n b' done) x.rest);
        put =
            subst (λ l. PutIn R k 0 l (x.before ++ (y ++ x.after))) (sym x.split)
            (fields-stay R x.before x.whole (PutIn.replaced n b b' own-holds g h w (PutIn.same k x.after)));
        says =
            merge-plain k x.before (y ++ x.after) plain x.first_says
            (merge-plain k y x.after plain (framed-said k y (one-framed y g) ∙ bytes-alone k n b' h) x.rest_says);
        bytes = last_found (raws-last n) x.first (raw n b' done) x.rest (ap (λ t. guard t b') (eq-eqb n n refl)) x.none_later;
        ints = λ i. alike (ints-last i) x.first x.own (raw n b' done) x.rest (ap (int_at i) (sym own-field.1)) ∙ ap (int_at i) x.is;
        subs = λ i. subs-alike i x.first x.own (raw n b' done) x.rest (ap (sub_at i) (sym own-field.1)) ∙ ap (sub_at i) x.is;
        long = omega (arith, ap length x.split, three-long x.before x.bytes x.after, three-long x.before y x.after, framed-length own-holds);
      }

module _ (k : Kind) (n : ℕ) (m b : List ℕ) {t : Tree} (plain : once_numbers k ≡ []) (h : Has Bytes (rule_of k n)) (s : listed k m ≡ some t) (q : raw_at n t ≡ some b) where
  -- bytes that count are no longer than the message
  pub found-length : length b ≤ length m
  found-length = own-length k n m b plain h (last_of (λ t. raw_at n t) (raws-last n) k plain m s q)

  -- and can be others
  pub replace-bytes : (R : Replaces) (b' : List ℕ) → R k n b b' → length b' < 2 ^ 64 → Replaced R k n b b' m t
  replace-bytes R b' w l = go (last_of (λ t. raw_at n t) (raws-last n) k plain m s q)
    where
      by : (x : Last (λ t. raw_at n t) k m t b) → (y : List ℕ) × Framed (field n (vlen b')) y × (length y ≤ 20 + length b') → Replaced R k n b b' m t
      by x (y, g, l) = other-bytes k n m b plain h x R b' y w g l

      go : Last (λ t. raw_at n t) k m t b → Replaced R k n b b' m t
      go x = by x (framed-other b' (own-holds k n m b plain h x) l)

-- those of the messages inside
module _ (R : Replaces) (k : Kind) (n : ℕ) (k' : Kind) (i : ℕ) (plain : once_numbers k ≡ []) (plain' : once_numbers k' ≡ []) (h : Has (Nested k') (rule_of k n)) (h' : Has Bytes (rule_of k' i)) where
  abbrev within : Tree → Option (List ℕ)
  within t = then_o (sub_at n t) (λ u. raw_at i u)

  within-counts : LastCounts within
  within-counts = within-last n (λ u. raw_at i u) (raws-last i)

  own-inside : (f : Field) (y : List ℕ) {t u : Tree} → Framed f y → listed k y ≡ some t → sub_at n t ≡ some u → OwnMessage k' n f t u
  own-inside (field j v) y f r z = own-message k n k' j v h (sym (framed-said k y (one-framed y f)) ∙ r) z

  sub-alone : (u : Tree) → sub_at n (sub n u done) ≡ some u
  sub-alone u = ap (λ b. join_o b u none) (eq-eqb n n refl)

  -- a look-up in the message inside that finds the same there
  inside-alike : {A : Type 0} (look : Tree → Option A) → LastCounts look → (t v v' rest : Tree) → look v' ≡ look v
      → then_o (sub_at n (join t (join (sub n v' done) rest))) look ≡ then_o (sub_at n (join t (join (sub n v done) rest))) look
  inside-alike look l t v v' rest e =
      alike (within-last n look l) t (sub n v done) (sub n v' done) rest
      (ap (λ o. then_o o look) (sub-alone v') ∙ e ∙ sym (ap (λ o. then_o o look) (sub-alone v)))

  module _ (m b b' : List ℕ) {t u : Tree} (q : sub_at n t ≡ some u) (x : Last within k m t b) (v : Tree) (o : OwnMessage k' n x.one x.own v) where
    own_held : Holds n o.bytes x.bytes
    own_held = held_by x.one x.framed o.holds

    own-long : length o.bytes ≤ length m
    own-long = omega (arith, ap length x.split, three-long x.before x.bytes x.after, framed-length own_held)

    -- its bytes replaced, y for the field that holds it, and so the tree w of the message inside
    module _ (r : Replaced R k' i b b' o.bytes v) (y : List ℕ) (g : Holds n r.message y) (l : length y ≤ 20 + length r.message) (w : Tree) where
      abbrev own' : Tree
      own' = sub n r.tree done

      own-was : join x.first (join (sub n v done) x.rest) ≡ t
      own-was = ap (λ a. join x.first (join a x.rest)) (sym o.is) ∙ x.is

      found-again : within (join x.first (join own' x.rest)) ≡ some b'
      found-again = last_found within-counts x.first own' x.rest (ap (λ o. then_o o (λ u. raw_at i u)) (sub-alone r.tree) ∙ r.bytes) x.none_later

      other-inside : sub_at n (join x.first (join own' x.rest)) ≡ some w → raw_at i w ≡ some b' → ReplacedInside R k n i b b' m t u
      other-inside is bytes =
          record {
            message = x.before ++ (y ++ x.after);
            tree = join x.first (join own' x.rest);
            inner = w;
            put =
                subst (λ l. PutIn R k 0 l (x.before ++ (y ++ x.after))) (sym x.split)
                (fields-stay R x.before x.whole (PutIn.inside n k' o.bytes r.message own_held g h r.put (PutIn.same k x.after)));
            says =
                merge-plain k x.before (y ++ x.after) plain x.first_says
                (merge-plain k y x.after plain (one-message k n k' r.message y h g ∙ ap (map_o (λ u. sub n u done)) r.says) x.rest_says);
            is = is;
            bytes = bytes;
            inner_ints = λ j.
                ap (λ o. then_o o (λ u. int_at j u)) (sym is) ∙ inside-alike (λ u. int_at j u) (ints-last j) x.first v r.tree x.rest (r.ints j)
                ∙ ap (λ t. then_o (sub_at n t) (λ u. int_at j u)) own-was ∙ ap (λ o. then_o o (λ u. int_at j u)) q;
            ints = λ j. alike (ints-last j) x.first (sub n v done) own' x.rest refl ∙ ap (int_at j) own-was;
            raws = λ j. alike (raws-last j) x.first (sub n v done) own' x.rest refl ∙ ap (raw_at j) own-was;
            long =
                omega (arith, ap length x.split, three-long x.before x.bytes x.after, three-long x.before y x.after, r.long, framed-length own_held);
          }

  pub replace-inside : (m b b' : List ℕ) {t u : Tree} → listed k m ≡ some t → sub_at n t ≡ some u → raw_at i u ≡ some b → R k' i b b' → length m + length b' + 20 < 2 ^ 64
      → ReplacedInside R k n i b b' m t u
  replace-inside m b b' {t} {u} s q z w l = go (last_of within within-counts k plain m s (ap (λ o. then_o o (λ u. raw_at i u)) q ∙ z))
    where
      last : (x : Last within k m t b) (v : Tree) (o : OwnMessage k' n x.one x.own v) (r : Replaced R k' i b b' o.bytes v) (y : List ℕ) (g : Holds n r.message y)
          → length y ≤ 20 + length r.message → (a : Tree) × (sub_at n (join x.first (join (sub n r.tree done) x.rest)) ≡ some a) × (raw_at i a ≡ some b')
          → ReplacedInside R k n i b b' m t u
      last x v o r y g l (a, is, bytes) = other-inside m b b' q x v o r y g l a is bytes

      held : (x : Last within k m t b) (v : Tree) (o : OwnMessage k' n x.one x.own v) (r : Replaced R k' i b b' o.bytes v)
          → (y : List ℕ) × Framed (field n (vlen r.message)) y × (length y ≤ 20 + length r.message) → ReplacedInside R k n i b b' m t u
      held x v o r (y, g, l) =
          last x v o r y g l (then_some (sub_at n (join x.first (join (sub n r.tree done) x.rest))) (λ u. raw_at i u) (found-again m b b' q x v o r y g l v))

      inner : (x : Last within k m t b) (v : Tree) (o : OwnMessage k' n x.one x.own v) → Replaced R k' i b b' o.bytes v → ReplacedInside R k n i b b' m t u
      inner x v o r = held x v o r (framed-other r.message (own_held m b b' q x v o) (omega (arith, r.long, own-long m b b' q x v o)))

      own : (x : Last within k m t b) (v : Tree) → raw_at i v ≡ some b → OwnMessage k' n x.one x.own v → ReplacedInside R k n i b b' m t u
      own x v e o = inner x v o (replace-bytes k' i o.bytes b plain' h' o.says e R b' w (omega arith))

      found : (x : Last within k m t b) → (v : Tree) × (sub_at n x.own ≡ some v) × (raw_at i v ≡ some b) → ReplacedInside R k n i b b' m t u
      found x (v, p, e) = own x v e (own-inside x.one x.bytes x.framed x.own_says p)

      go : Last within k m t b → ReplacedInside R k n i b b' m t u
      go x = found x (then_some (sub_at n x.own) (λ u. raw_at i u) x.found)
