-- Every number that is read out of a message is a 64-bit word.
use Rattle.std.specs.Prelude.{ℕ, zero, suc, ◌/◌, ◌%◌, ◌^◌, ◌<◌, ◌≡◌, refl, List, [], ◌∷◌, ◌++◌, Bool, true, false, cond, length, ltb, eqb}
use Rattle.std.proofs.Common.{arith, subst}
use Rattle.std.proofs.Math.Option.{Option, none, some}
use Rattle.fields_wire.specs.Reader.{Got, nothing, got, Reader, and_then, give, part}
use Rattle.fields_wire.specs.ReaderLaws.{then-got}
use Rattle.fields_wire.specs.WireLaws.{varint-below}
use Rattle.fields_wire.specs.Wire.{Value, vint, v64, vlen, v32, Field, field, varint, value_of, read_field, cons_o, then_fields, fields_in, fields_of}
use Rattle.fields_encoding.proofs.BasicLaws.{never}
use Rattle.fields_schema.specs.Rules.{names_of, strict_of, rule_of}
use Rattle.fields_schema.specs.Tree.{map_o, then_o, guard, is_some, among, is_int32, Content, c_int, c_raw, c_fix, c_msg, Item, item, of_int, of_bytes, of_fixed, decode, find, add, by_rule, step, items, items_o, level}
use Rattle.fields_schema.specs.Tree.{Tree, done, int, raw, fix, sub, open_one, open_item, open_all, listed_in, listed, later, int_at, join, join_o, sub_at}
use Rattle.fields_schema.specs.declared.Kind.{Kind}
use Rattle.fields_schema.specs.declared.Form.{Form}
use Rattle.fields_schema.specs.declared.Form.TheVariants.{Int64, Int32, Named, Flag, Bytes, Opaque, Float, Nested}
use Rattle.fields_schema.specs.declared.Rule.{Rule}
use Rattle.fields_schema.specs.declared.Rule.TheVariants.{Unlisted, Refused, Once, Single, Repeated}
use Rattle.protocol.specs.Words.{Words}

abbrev WordValue : Value → Type 0
WordValue (vint v) = v < 2 ^ 64
WordValue (v64 b) = Unit {0}
WordValue (vlen b) = Unit {0}
WordValue (v32 b) = Unit {0}

abbrev WordField : Field → Type 0
WordField (field n v) = WordValue v

abbrev WordFields : List Field → Type 0
WordFields [] = Unit {0}
WordFields (f ∷ fs) = WordField f × WordFields fs

-- what the reader gives has the property
record Gives {A : Type 0} (P : A → Type 0) (f : Reader A) : Type 0 where
  all : (xs : List ℕ) {a : A} {r : List ℕ} → f xs ≡ got a r → P a

abbrev Anything : {A : Type 0} → A → Type 0
Anything a = Unit {0}

gives-anything : {A : Type 0} (f : Reader A) → Gives Anything f
gives-anything f = record { all = λ xs e. record {} }

gives_then : {A B : Type 0} (P : A → Type 0) (Q : B → Type 0) {f : Reader A} {g : A → Reader B} → Gives P f → ((a : A) → P a → Gives Q (g a)) → Gives Q (and_then f g)
gives_then P Q {f} {g} h k = record { all = λ xs e. let i = then-got (f xs) g e in (k i.0 (h.all xs i.2)).all i.1 i.3 }

gives-give : {A : Type 0} (P : A → Type 0) {a : A} → P a → Gives P (give a)
gives-give P {a} h = record { all = λ xs {a = b} e. let q : a ≡ b = cc in subst P q h }

gives-choose : {A : Type 0} (P : A → Type 0) (t : Bool) {f g : Reader A} → Gives P f → Gives P g → Gives P (λ xs. cond t (f xs) (g xs))
gives-choose P true h k = record { all = h.all }
gives-choose P false h k = record { all = k.all }

gives_nothing : {A : Type 0} (P : A → Type 0) → Gives P (λ xs. nothing)
gives_nothing P = record { all = λ xs e. never (cc) }

gives-varint : Gives (λ v. v < 2 ^ 64) varint
gives-varint = record { all = λ xs e. omega (arith, varint-below 9 xs e) }

gives-value : (n w : ℕ) → Gives WordField (value_of n w)
unfolding value_of
gives-value n w =
    gives-choose WordField (eqb w 0) (gives_then (λ v. v < 2 ^ 64) WordField gives-varint (λ v h. gives-give WordField h))
    (gives-choose WordField (eqb w 1) (gives_then Anything WordField (gives-anything (part 8)) (λ b h. gives-give WordField h))
    (gives-choose WordField (eqb w 2)
    (gives_then Anything WordField (gives-anything varint) (λ l h. gives_then Anything WordField (gives-anything (part l)) (λ b k. gives-give WordField k)))
    (gives-choose WordField (eqb w 5) (gives_then Anything WordField (gives-anything (part 4)) (λ b h. gives-give WordField h)) (gives_nothing WordField))))

gives-field : Gives WordField read_field
unfolding read_field
gives-field =
    gives_then Anything WordField (gives-anything varint) (λ t h.
    gives-choose WordField (ltb t (2 ^ 32)) (gives-choose WordField (ltb 7 t) (gives-value (t / 8) (t % 8)) (gives_nothing WordField)) (gives_nothing WordField))

fields-words : (n : ℕ) (xs : List ℕ) {fs : List Field} → fields_in n xs ≡ some fs → WordFields fs
unfolding fields_in
fields-words zero [] {fs} e = let q : [] ≡ fs = cc in subst WordFields q (record {})
fields-words zero (b ∷ xs) e = never (cc)
fields-words (suc n) [] {fs} e = let q : [] ≡ fs = cc in subst WordFields q (record {})
fields-words (suc n) (b ∷ xs) {fs} e = go (read_field (b ∷ xs)) refl e (λ r gs q. fields-words n r {fs = gs} q)
  where
    last : (f : Field) (o : Option (List Field)) → WordField f → ((gs : List Field) → o ≡ some gs → WordFields gs) → cons_o f o ≡ some fs → WordFields fs
    last f none h k q = never (cc)
    last f (some gs) h k q = let z : f ∷ gs ≡ fs = cc in subst WordFields z (h, k gs refl)

    go : (o : Got Field) → read_field (b ∷ xs) ≡ o → then_fields o (λ r. fields_in n r) ≡ some fs
        → ((r : List ℕ) (gs : List Field) → fields_in n r ≡ some gs → WordFields gs) → WordFields fs
    go nothing q h ih = never (cc)
    go (got f r) q h ih = last f (fields_in n r) (gives-field.all (b ∷ xs) q) (ih r) h

-- ---- one level

abbrev WordContent : Content → Type 0
WordContent (c_int v) = v < 2 ^ 64
WordContent (c_raw b) = Unit {0}
WordContent (c_fix b) = Unit {0}
WordContent (c_msg k b) = Unit {0}

abbrev WordItem : Item → Type 0
WordItem (item n c) = WordContent c

abbrev WordItems : List Item → Type 0
WordItems [] = Unit {0}
WordItems (i ∷ is) = WordItem i × WordItems is

guard-word : (t : Bool) (v : ℕ) {c : Content} → v < 2 ^ 64 → guard t (c_int v) ≡ some c → WordContent c
guard-word true v {c} h e = let q : c_int v ≡ c = cc in subst WordContent q h
guard-word false v h e = never (cc)

some_word : (d : Content) {c : Content} → WordContent d → some d ≡ some c → WordContent c
some_word d {c} h e = let q : d ≡ c = cc in subst WordContent q h

flag_word : (t : Bool) → cond t 0 1 < 2 ^ 64
flag_word true = omega arith
flag_word false = omega arith

int_word : (f : Form) (v : ℕ) {c : Content} → v < 2 ^ 64 → of_int f v ≡ some c → WordContent c
int_word Int64 v h e = some_word (c_int v) h e
int_word Int32 v h e = guard-word (is_int32 v) v h e
int_word (Named n) v h e = guard-word (among v (names_of n)) v h e
int_word Flag v h e = some_word (c_int (cond (eqb v 0) 0 1)) (flag_word (eqb v 0)) e
int_word Bytes v h e = never (cc)
int_word Opaque v h e = never (cc)
int_word Float v h e = never (cc)
int_word (Nested k) v h e = never (cc)

bytes_word : (f : Form) (b : List ℕ) {c : Content} → of_bytes f b ≡ some c → WordContent c
bytes_word Int64 b e = never (cc)
bytes_word Int32 b e = never (cc)
bytes_word (Named n) b e = never (cc)
bytes_word Flag b e = never (cc)
bytes_word Bytes b e = some_word (c_raw b) (record {}) e
bytes_word Opaque b e = some_word (c_raw []) (record {}) e
bytes_word Float b e = never (cc)
bytes_word (Nested k) b e = some_word (c_msg k b) (record {}) e

fixed_word : (f : Form) (b : List ℕ) {c : Content} → of_fixed f b ≡ some c → WordContent c
fixed_word Int64 b e = never (cc)
fixed_word Int32 b e = never (cc)
fixed_word (Named n) b e = never (cc)
fixed_word Flag b e = never (cc)
fixed_word Bytes b e = never (cc)
fixed_word Opaque b e = never (cc)
fixed_word Float b e = some_word (c_fix b) (record {}) e
fixed_word (Nested k) b e = never (cc)

decode-word : (f : Form) (v : Value) {c : Content} → WordValue v → decode f v ≡ some c → WordContent c
decode-word f (vint v) h e = int_word f v h e
decode-word f (v64 b) h e = never (cc)
decode-word f (vlen b) h e = bytes_word f b e
decode-word f (v32 b) h e = fixed_word f b e

items-append : (a b : List Item) → WordItems a → WordItems b → WordItems (a ++ b)
items-append [] b h k = k
items-append (i ∷ a) b h k = (h.0, items-append a b h.1 k)

some-items : (a : List Item) {b : List Item} → WordItems a → some a ≡ some b → WordItems b
some-items a {b} h e = let q : a ≡ b = cc in subst WordItems q h

add-word : (n : ℕ) (acc : List Item) (o : Option Content) {is : List Item} → WordItems acc → ((c : Content) → o ≡ some c → WordContent c)
    → add n acc o ≡ some is → WordItems is
add-word n acc none h k e = never (cc)
add-word n acc (some c) h k e = some-items (acc ++ (item n c ∷ [])) (items-append acc (item n c ∷ []) h (k c refl, record {})) e

rule-word : (r : Rule) (st : Bool) (n : ℕ) (v : Value) (acc : List Item) {is : List Item} → WordValue v → WordItems acc → by_rule r st n v acc ≡ some is → WordItems is
rule-word Unlisted true n v acc h k e = never (cc)
rule-word Unlisted false n v acc h k e = some-items acc k e
rule-word Refused st n v acc h k e = never (cc)
rule-word (Single f) st n v acc h k e = add-word n acc (decode f v) k (λ c z. decode-word f v h z) e
rule-word (Once f) st n v acc {is} h k e = go (is_some (find n acc)) e
  where
    go : (t : Bool) → cond t none (add n acc (decode f v)) ≡ some is → WordItems is
    go true q = never (cc)
    go false q = add-word n acc (decode f v) k (λ c z. decode-word f v h z) q
rule-word (Repeated f) st n v acc h k e = add-word n acc (decode f v) k (λ c z. decode-word f v h z) e

items-word : (k : Kind) (fs : List Field) (acc : List Item) {is : List Item} → WordFields fs → WordItems acc → items k fs acc ≡ some is → WordItems is
unfolding items
items-word k [] acc h a e = some-items acc a e
items-word k (field n v ∷ fs) acc {is} h a e =
    go (step k (field n v) acc) (λ b q. rule-word (rule_of k n) (strict_of k) n v acc h.0 a q) (λ b w q. items-word k fs b h.1 w q) e
  where
    go : (o : Option (List Item)) → ((b : List Item) → o ≡ some b → WordItems b) → ((b : List Item) → WordItems b → items k fs b ≡ some is → WordItems is)
        → then_o o (λ b. items k fs b) ≡ some is → WordItems is
    go none f g q = never (cc)
    go (some b) f g q = g b (f b refl) q

level-word : (k : Kind) (m : List ℕ) {is : List Item} → level k m ≡ some is → WordItems is
unfolding level fields_of
level-word k m {is} e = go (fields_in (length m) m) (λ fs q. fields-words (length m) m q) e
  where
    go : (o : Option (List Field)) → ((fs : List Field) → o ≡ some fs → WordFields fs) → items_o k o [] ≡ some is → WordItems is
    go none f q = never (cc)
    go (some fs) f q = items-word k fs [] (f fs refl) (record {}) q

-- ---- every level

some-tree : (t : Tree) {u : Tree} → Words t → some t ≡ some u → Words u
some-tree t {u} h e = let q : t ≡ u = cc in subst Words q h

open-word : (below : Kind → List ℕ → Option Tree) → ((k : Kind) (b : List ℕ) (t : Tree) → below k b ≡ some t → Words t)
    → (is : List Item) {t : Tree} → WordItems is → open_all below is ≡ some t → Words t
unfolding open_all
open-word below f [] h e = some-tree done (record {}) e
open-word below f (item n c ∷ is) {t} h e = go (open_all below is) (λ u q. open-word below f is h.1 q) e
  where
    one : (c : Content) (u : Tree) → WordContent c → Words u → open_one below n c u ≡ some t → Words t
    one (c_int v) u w x q = some-tree (int n v u) (w, x) q
    one (c_raw b) u w x q = some-tree (raw n b u) x q
    one (c_fix b) u w x q = some-tree (fix n b u) x q
    one (c_msg k b) u w x q = deeper (below k b) (f k b) q
      where
        deeper : (o : Option Tree) → ((s : Tree) → o ≡ some s → Words s) → map_o (λ s. sub n s u) o ≡ some t → Words t
        deeper none g z = never (cc)
        deeper (some s) g z = some-tree (sub n s u) (g s refl, x) z

    go : (o : Option Tree) → ((u : Tree) → o ≡ some u → Words u) → open_item below (item n c) o ≡ some t → Words t
    go none g q = never (cc)
    go (some u) g q = one c u h.0 (g u refl) q

listed-in-words : (d : ℕ) (k : Kind) (m : List ℕ) {t : Tree} → listed_in d k m ≡ some t → Words t
unfolding listed_in
listed-in-words zero k m e = never (cc)
listed-in-words (suc d) k m {t} e = go (level k m) (λ is q. level-word k m q) e (λ k' b t' q. listed-in-words d k' b q)
  where
    go : (o : Option (List Item)) → ((is : List Item) → o ≡ some is → WordItems is) → then_o o (λ is. open_all (λ k' b. listed_in d k' b) is) ≡ some t
        → ((k' : Kind) (b : List ℕ) (t' : Tree) → listed_in d k' b ≡ some t' → Words t') → Words t
    go none f q ih = never (cc)
    go (some is) f q ih = open-word (λ k' b. listed_in d k' b) ih is (f is refl) q

pub listed-words : (k : Kind) (m : List ℕ) {t : Tree} → listed k m ≡ some t → Words t
unfolding listed
listed-words k m e = listed-in-words 5 k m e

-- ---- look-ups

pub int-word-at : (n : ℕ) (t : Tree) {v : ℕ} → Words t → int_at n t ≡ some v → v < 2 ^ 64
int-word-at n done h e = never (cc)
int-word-at n (int m w t) {v} h e = go (int_at n t) (eqb n m) (λ x q. int-word-at n t h.1 q) e
  where
    go : (o : Option ℕ) (b : Bool) → ((x : ℕ) → o ≡ some x → x < 2 ^ 64) → later o (guard b w) ≡ some v → v < 2 ^ 64
    go none true f q = let z : w ≡ v = cc in omega (arith, h.0)
    go none false f q = never (cc)
    go (some x) b f q = let z : x ≡ v = cc in omega (arith, f x refl)
int-word-at n (raw m b t) h e = int-word-at n t h e
int-word-at n (fix m b t) h e = int-word-at n t h e
int-word-at n (sub m s t) h e = int-word-at n t h.1 e

join-words : (s t : Tree) → Words s → Words t → Words (join s t)
join-words done t h k = k
join-words (int n v s) t h k = (h.0, join-words s t h.1 k)
join-words (raw n b s) t h k = join-words s t h k
join-words (fix n b s) t h k = join-words s t h k
join-words (sub n u s) t h k = (h.0, join-words s t h.1 k)

pub sub-words-at : (n : ℕ) (t : Tree) {u : Tree} → Words t → sub_at n t ≡ some u → Words u
sub-words-at n done h e = never (cc)
sub-words-at n (int m v t) h e = sub-words-at n t h.1 e
sub-words-at n (raw m b t) h e = sub-words-at n t h e
sub-words-at n (fix m b t) h e = sub-words-at n t h e
sub-words-at n (sub m s t) {u} h e = go (sub_at n t) (eqb n m) (λ x q. sub-words-at n t h.1 q) e
  where
    go : (o : Option Tree) (b : Bool) → ((x : Tree) → o ≡ some x → Words x) → join_o b s o ≡ some u → Words u
    go o false f q = f u q
    go none true f q = some-tree s h.0 q
    go (some x) true f q = some-tree (join s x) (join-words s x h.0 (f x refl)) q
