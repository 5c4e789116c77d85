-- Read back: the bytes of a tree that fits a kind say that tree.
use Rattle.std.specs.Prelude.{ℕ, zero, suc, ◌+◌, ◌*◌, ◌/◌, ◌%◌, ◌^◌, ◌≤◌, ◌<◌, ◌≡◌, refl, List, [], ◌∷◌, ◌++◌, Bool, true, false, cond, length, eqb}
use Rattle.std.proofs.Common.{arith, sym, ap, ◌∙◌, append-nil, append_assoc, lt-ltb, le-leb}
use Rattle.std.proofs.Math.Option.{Option, none, some}
use Rattle.std.proofs.Math.Seq.{take-length, drop-length}
use Rattle.fields_wire.specs.Reader.{got, part}
use Rattle.fields_wire.specs.Wire.{Value, vint, vlen, v32, Field, field, value_of, read_field, fields_in, fields_of, cons_o, Framed}
use Rattle.fields_wire.specs.WireLaws.{fields-put}
use Rattle.fields_wire.specs.Varint.{varint_bytes}
use Rattle.fields_wire.specs.VarintLaws.{varint-whole, varint-back}
use Rattle.fields_schema.specs.Rules.{strict_of, rule_of}
use Rattle.fields_schema.specs.Tree.{map_o, then_o, is_some, among, Content, c_int, c_raw, c_fix, c_msg, Item, item, decode, find, add, by_rule, step, items, items_o, level}
use Rattle.fields_schema.specs.Tree.{Tree, sub, open_one, open_all, listed_in, listed}
use Rattle.fields_encoding.proofs.BasicLaws.{never}
use Rattle.fields_encoding.specs.Encode.{tag, int_field, len_field, fix_field, encode, FieldNumber, says, FitsAfter, ends, ints, raws, fixs, subs, Fits}
use Rattle.fields_encoding.specs.Depth.{depth}
use Rattle.fields_encoding.proofs.DepthLaws.{says-message, depth-most}
use Rattle.fields_schema.specs.declared.Kind.{Kind}
use Rattle.fields_schema.specs.declared.Rule.{Rule}
use Rattle.fields_schema.specs.declared.Rule.TheVariants.{Unlisted, Refused, Once, Single, Repeated}
use Rattle.fields_encoding.specs.Known.{Known}

tag_back : (n w : ℕ) (xs : List ℕ) → FieldNumber n → w < 8 → read_field (tag n w ++ xs) ≡ value_of n w xs
unfolding read_field
tag_back n w xs h l =
    let a = h.above in
    let b = h.below in
    let q : (8 * n + w) / 8 ≡ n = omega arith in
    let m : (8 * n + w) % 8 ≡ w = omega arith in
    rw (varint-back (8 * n + w) xs (omega arith), lt-ltb (8 * n + w) (2 ^ 32) (omega arith), lt-ltb 7 (8 * n + w) (omega arith), q, m)

pub int-framed : (n v : ℕ) → FieldNumber n → v < 2 ^ 64 → Framed (field n (vint v)) (int_field n v)
unfolding value_of
int-framed n v h l = record { whole = tag_back n 0 (varint_bytes v) h (omega arith) ∙ rw (varint-whole v l) }

part-all : (b : List ℕ) → part (length b) b ≡ got b []
part-all b = rw (le-leb (length b) (length b) (omega arith), take-length b, drop-length b)

pub len-framed : (n : ℕ) (b : List ℕ) → FieldNumber n → length b < 2 ^ 64 → Framed (field n (vlen b)) (len_field n b)
unfolding value_of
len-framed n b h l = record {
  whole = ap read_field (append_assoc (tag n 2) (varint_bytes (length b)) b) ∙ tag_back n 2 (varint_bytes (length b) ++ b) h (omega arith)
      ∙ rw (varint-back (length b) b l, part-all b);
}

pub fix-framed : (n : ℕ) (b : List ℕ) → FieldNumber n → length b ≡ 4 → Framed (field n (v32 b)) (fix_field n b)
unfolding value_of
fix-framed n b h l =
    let p : part 4 b ≡ got b [] = ap (λ k. part k b) (sym l) ∙ part-all b in
    record { whole = tag_back n 5 b h (omega arith) ∙ rw p }

-- one level ---------------------------------------------------------------------------

then-none : {A B : Type 0} (o : Option A) → then_o {B = B} o (λ a. none) ≡ none
then-none none = refl
then-none (some a) = refl

items-front : (k : Kind) (f : Field) (o : Option (List Field)) (acc : List Item) → items_o k (cons_o f o) acc ≡ then_o (step k f acc) (λ a. items_o k o a)
unfolding items
items-front k f (some fs) acc = refl
items-front k f none acc = sym (then-none (step k f acc))

says-rule : (r : Rule) (st : Bool) (n : ℕ) (v : Value) (c : Content) (acc : List Item) → says r (is_some (find n acc)) v ≡ some c
    → by_rule r st n v acc ≡ some (acc ++ (item n c ∷ []))
says-rule Unlisted st n v c acc h = never (cc)
says-rule Refused st n v c acc h = never (cc)
says-rule (Single f) st n v c acc h = rw h
says-rule (Once f) st n v c acc h = go (is_some (find n acc)) h
  where
    go : (s : Bool) → cond s none (decode f v) ≡ some c → cond s none (add n acc (decode f v)) ≡ some (acc ++ (item n c ∷ []))
    go true h = never (cc)
    go false h = rw h
says-rule (Repeated f) st n v c acc h = rw h

-- the first field, of a value that says c
front : (k : Kind) (n : ℕ) (v : Value) (c : Content) {x : List ℕ} (m : List ℕ) (acc : List Item) → Framed (field n v) x
    → says (rule_of k n) (is_some (find n acc)) v ≡ some c → items_o k (fields_of (x ++ m)) acc ≡ items_o k (fields_of m) (acc ++ (item n c ∷ []))
front k n v c m acc h g =
    ap (λ o. items_o k o acc) (fields-put m h) ∙ items-front k (field n v) (fields_of m) acc
    ∙ ap (λ o. then_o o (λ a. items_o k (fields_of m) a)) (says-rule (rule_of k n) (strict_of k) n v c acc g)

find-snoc : (m n : ℕ) (c : Content) (acc : List Item) → is_some (find m (acc ++ (item n c ∷ []))) ≡ cond (eqb m n) true (is_some (find m acc))
find-snoc m n c [] = go (eqb m n)
  where
    go : (t : Bool) → is_some (cond t (some c) none) ≡ cond t true false
    go true = refl
    go false = refl
find-snoc m n c (item j a ∷ acc) = go (eqb m j) (eqb m n) (find-snoc m n c acc)
  where
    go : (t u : Bool) → is_some (find m (acc ++ (item n c ∷ []))) ≡ cond u true (is_some (find m acc))
        → is_some (cond t (some a) (find m (acc ++ (item n c ∷ [])))) ≡ cond u true (is_some (cond t (some a) (find m acc)))
    go true true h = refl
    go true false h = refl
    go false u h = h

pub known-none : Known [] []
known-none = record { same = λ m. refl }

pub known-snoc : {ns : List ℕ} {acc : List Item} (n : ℕ) (c : Content) → Known ns acc → Known (n ∷ ns) (acc ++ (item n c ∷ []))
known-snoc {ns} {acc} n c h = record { same = λ m. find-snoc m n c acc ∙ ap (λ t. cond (eqb m n) true t) (h.same m) }

-- every level -------------------------------------------------------------------------

-- what is read of m after acc, and what it opens to
record Back (d : ℕ) (k : Kind) (m : List ℕ) (acc : List Item) (t : Tree) : Type 0 where
  new : List Item
  reads : items_o k (fields_of m) acc ≡ some (acc ++ new)
  opens : open_all (λ k b. listed_in d k b) new ≡ some t

back-cons : (d : ℕ) (k : Kind) (n : ℕ) (v : Value) (c : Content) {x : List ℕ} (m : List ℕ) {acc : List Item} {t t' : Tree} → Framed (field n v) x
    → says (rule_of k n) (is_some (find n acc)) v ≡ some c → open_one (λ k b. listed_in d k b) n c t ≡ some t' → Back d k m (acc ++ (item n c ∷ [])) t
    → Back d k (x ++ m) acc t'
unfolding open_all
back-cons d k n v c m {acc} h g o r = record {
  new = item n c ∷ r.new;
  reads = front k n v c m acc h g ∙ r.reads ∙ ap some (append_assoc acc (item n c ∷ []) r.new);
  opens = ap (λ q. then_o q (λ t. open_one (λ k b. listed_in d k b) n c t)) r.opens ∙ o;
}

back-listed : {d : ℕ} {k : Kind} {m : List ℕ} {t : Tree} → Back d k m [] t → listed_in (suc d) k m ≡ some t
unfolding listed_in level
back-listed {d} r = ap (λ o. then_o o (λ is. open_all (λ k b. listed_in d k b) is)) r.reads ∙ r.opens

back : {k : Kind} {ns : List ℕ} {t : Tree} → FitsAfter k ns t → (d : ℕ) → depth k ≤ d → (acc : List Item) → Known ns acc → Back d k (encode t) acc t
unfolding encode open_all items fields_of fields_in
back (ends {k = k}) d j acc e = record { new = []; reads = ap some (sym (append-nil acc)); opens = refl }
back (ints {k = k} {n = n} {v = v} {t = t} h l g r) d j acc e =
    let q : v < 2 ^ 64 = omega arith in
    back-cons d k n (vint v) (c_int v) (encode t) (int-framed n v h q) (rw (e.same n) g) refl
    (back r d j (acc ++ (item n (c_int v) ∷ [])) (known-snoc n (c_int v) e))
back (raws {k = k} {n = n} {b = b} {t = t} h l g r) d j acc e =
    back-cons d k n (vlen b) (c_raw b) (encode t) (len-framed n b h l) (rw (e.same n) g) refl
    (back r d j (acc ++ (item n (c_raw b) ∷ [])) (known-snoc n (c_raw b) e))
back (fixs {k = k} {n = n} {b = b} {t = t} h l g r) d j acc e =
    back-cons d k n (v32 b) (c_fix b) (encode t) (fix-framed n b h l) (rw (e.same n) g) refl
    (back r d j (acc ++ (item n (c_fix b) ∷ [])) (known-snoc n (c_fix b) e))
back (subs {k = k} {ns = ns} {n = n} {s = s} {t = t} k' h l g q r) zero j acc e =
    absurd (omega (arith, (says-message k n (among n ns) k' (encode s) (encode s) g).0))
back (subs {k = k} {ns = ns} {n = n} {s = s} {t = t} k' h l g q r) (suc d) j acc e =
    back-cons (suc d) k n (vlen (encode s)) (c_msg k' (encode s)) (encode t) (len-framed n (encode s) h l) (rw (e.same n) g)
    (ap (map_o (λ s. sub n s t)) (back-listed (back q d (omega (arith, (says-message k n (among n ns) k' (encode s) (encode s) g).0)) [] known-none)))
    (back r (suc d) j (acc ++ (item n (c_msg k' (encode s)) ∷ [])) (known-snoc n (c_msg k' (encode s)) e))

-- THE THEOREM: every tree that fits kind k, written and read, is itself
pub read_back : {k : Kind} {t : Tree} → Fits k t → listed k (encode t) ≡ some t
unfolding listed
read_back {k} h = back-listed (back h 4 (depth-most k) [] known-none)
