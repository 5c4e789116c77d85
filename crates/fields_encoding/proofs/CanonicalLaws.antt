-- Every tree that is read fits its kind, and its bytes are no longer than those that were read.
use Rattle.std.specs.Prelude.{ℕ, zero, suc, ◌+◌, ◌*◌, ◌/◌, ◌%◌, ◌^◌, ◌≤◌, ◌<◌, ◌≡◌, refl, List, [], ◌∷◌, ◌++◌, Bool, true, false, cond, ◌⊎◌, length, take, drop, ltb, leb, eqb}
use Rattle.std.proofs.Common.{arith, sym, ap, ◌∙◌, subst, append-nil, append_assoc, inl, inr, ⊎_elim, length-append, length-drop, length-take-le, ltb-true, ltb-false, leb-true, eqb-true}
use Rattle.std.proofs.Math.Option.{Option, none, some}
use Rattle.std.proofs.lemmas.Bool.{eqb-false}
use Rattle.fields_wire.specs.Reader.{Got, nothing, got, Reader, and_then, give, only, part}
use Rattle.fields_wire.specs.ReaderLaws.{then-got, choose-got}
use Rattle.fields_wire.specs.Wire.{varint, Value, vint, v64, vlen, v32, Field, field, value_of, read_field, cons_o, then_fields, fields_in, fields_of}
use Rattle.fields_wire.specs.WireLaws.{varint-below}
use Rattle.fields_wire.specs.Varint.{varint_up, varint_bytes}
use Rattle.fields_wire.specs.VarintLaws.{varint-shortest}
use Rattle.fields_schema.specs.Rules.{names_of, strict_of, rule_of}
use Rattle.fields_schema.specs.Tree.{map_o, guard, is_some, among, is_int32, Content, c_int, c_raw, c_fix, c_msg, Item, item, decode, find, add, by_rule, step, items, items_o, level}
use Rattle.fields_schema.specs.Tree.{Tree, done, int, raw, fix, sub, open_one, open_all, listed_in, listed}
use Rattle.fields_encoding.proofs.BasicLaws.{never, guarded}
use Rattle.fields_encoding.specs.Encode.{tag, int_field, head, len_field, fix_field, encode, FieldNumber, says, FitsAfter, ends, ints, raws, fixs, subs, Fits}
use Rattle.fields_encoding.specs.Known.{Known}
use Rattle.fields_encoding.proofs.BackLaws.{known-none, known-snoc, read_back}
use Rattle.fields_schema.specs.declared.Kind.{Kind}
use Rattle.fields_schema.proofs.OptionLaws.{then_some}
use Rattle.fields_schema.specs.declared.Form.{Form}
use Rattle.fields_schema.specs.declared.Form.TheVariants.{Int64, Int32, Named, Flag, Bytes, Opaque, Float, Nested}
use Rattle.fields_schema.specs.declared.Rule.{Rule}
use Rattle.fields_schema.specs.declared.Rule.TheVariants.{Unlisted, Refused, Once, Single, Repeated}

none-some : {A B : Type 0} {a : A} → ◌≡◌ {A = Option A} none (some a) → B
none-some e = never (cc)

map-some : {A B : Type 0} (f : A → B) (o : Option A) {b : B} → map_o f o ≡ some b → (a : A) × (o ≡ some a) × (f a ≡ b)
map-some f none e = none-some e
map-some f (some a) e = (a, refl, cc)

guard-some : {A : Type 0} (t : Bool) (a : A) {b : A} → guard t a ≡ some b → (t ≡ true) × (a ≡ b)
guard-some true a e = (refl, cc)
guard-some false a e = none-some e

-- lengths grow with what is written --------------------------------------------------------

up-grows : (m a b : ℕ) → a ≤ b → length (varint_up m a) ≤ length (varint_up m b)
unfolding varint_up
up-grows zero a b h = omega arith
up-grows (suc m) a b h = go (ltb a 128) refl (ltb b 128) refl (up-grows m (a / 128) (b / 128) (omega arith))
  where
    go : (s : Bool) → ltb a 128 ≡ s → (t : Bool) → ltb b 128 ≡ t → length (varint_up m (a / 128)) ≤ length (varint_up m (b / 128))
        → length (cond s (a ∷ []) ((a % 128 + 128) ∷ varint_up m (a / 128))) ≤ length (cond t (b ∷ []) ((b % 128 + 128) ∷ varint_up m (b / 128)))
    go true p true q i = omega arith
    go true p false q i = omega arith
    go false p true q i = absurd (omega (arith, ltb-false a 128 p, ltb-true b 128 q))
    go false p false q i = omega arith

varint-grows : (a b : ℕ) → a ≤ b → length (varint_bytes a) ≤ length (varint_bytes b)
varint-grows a b h = up-grows 9 a b h

int-grows : (n a b : ℕ) → a ≤ b → length (int_field n a) ≤ length (int_field n b)
int-grows n a b h = omega (arith, length-append (tag n 0) (varint_bytes a), length-append (tag n 0) (varint_bytes b), varint-grows a b h)

len-length : (n : ℕ) (b : List ℕ) → length (len_field n b) ≡ length (tag n 2) + length (varint_bytes (length b)) + length b
len-length n b = omega (arith, length-append (head n (length b)) b, length-append (tag n 2) (varint_bytes (length b)))

len_grows : (n : ℕ) (a b : List ℕ) → length a ≤ length b → length (len_field n a) ≤ length (len_field n b)
len_grows n a b h = omega (arith, len-length n a, len-length n b, varint-grows (length a) (length b) h)

-- a field that is read ----------------------------------------------------------------------

abbrev Ranged : Value → Type 0
Ranged (vint v) = v < 2 ^ 64
Ranged (v64 b) = Unit {0}
Ranged (vlen b) = length b < 2 ^ 64
Ranged (v32 b) = length b ≡ 4

-- its bytes in the shortest form, if it can be listed
abbrev size_of : ℕ → Value → ℕ
size_of n (vint v) = length (int_field n v)
size_of n (v64 b) = 0
size_of n (vlen b) = length (len_field n b)
size_of n (v32 b) = length (fix_field n b)

-- the value of field n, of wire type w, read of s up to r
abbrev Valued : ℕ → ℕ → List ℕ → List ℕ → Field → Type 0
Valued n w s r (field m (vint v)) = (m ≡ n) × (w ≡ 0) × (v < 2 ^ 64) × (length (varint_bytes v) + length r ≤ length s)
Valued n w s r (field m (v64 b)) = (m ≡ n) × (length r ≤ length s)
Valued n w s r (field m (vlen b)) = (m ≡ n) × (w ≡ 2) × (length b < 2 ^ 64) × (length (varint_bytes (length b)) + length b + length r ≤ length s)
Valued n w s r (field m (v32 b)) = (m ≡ n) × (w ≡ 5) × (length b ≡ 4) × (length b + length r ≤ length s)

abbrev int_reader : ℕ → Reader Field
int_reader n = and_then varint (λ v. give (field n (vint v)))

abbrev len_reader : ℕ → Reader Field
len_reader n = and_then varint (λ l. and_then (part l) (λ b. give (field n (vlen b))))

abbrev fixed_reader : ℕ → (List ℕ → Value) → ℕ → Reader Field
fixed_reader l v n = and_then (part l) (λ b. give (field n (v b)))

part-got : (l : ℕ) (s : List ℕ) {b r : List ℕ} → part l s ≡ got b r → (length b ≡ l) × (length b + length r ≡ length s)
part-got l s {b} {r} e =
    let p = choose-got (leb l (length s)) (got (take l s) (drop l s)) e in
    let h : l ≤ length s = leb-true l (length s) p.0 in
    let x : take l s ≡ b = cc p.1 in
    let y : drop l s ≡ r = cc p.1 in
    let z : length b ≡ l = sym (ap length x) ∙ length-take-le l s h in
    (z, omega (arith, ap length y, length-drop l s))

int-valued : (n w : ℕ) (s : List ℕ) (f : Field) (r : List ℕ) → w ≡ 0 → int_reader n s ≡ got f r → Valued n w s r f
int-valued n w s f r z e =
    let i = then-got (varint s) (λ v. give (field n (vint v))) e in
    let q : field n (vint i.0) ≡ f = cc i.3 in
    let x : i.1 ≡ r = cc i.3 in
    let v : i.0 < 2 ^ 64 = omega (arith, varint-below 9 s i.2) in
    let l : length (varint_bytes i.0) + length r ≤ length s = omega (arith, varint-shortest s i.2, ap length x) in
    subst (λ g. Valued n w s r g) q (refl, z, v, l)

len-valued : (n w : ℕ) (s : List ℕ) (f : Field) (r : List ℕ) → w ≡ 2 → len_reader n s ≡ got f r → Valued n w s r f
len-valued n w s f r z e =
    let i = then-got (varint s) (λ l. and_then (part l) (λ b. give (field n (vlen b)))) e in
    let j = then-got (part i.0 i.1) (λ b. give (field n (vlen b))) i.3 in
    let p = part-got i.0 i.1 j.2 in
    let q : field n (vlen j.0) ≡ f = cc j.3 in
    let x : j.1 ≡ r = cc j.3 in
    let v : length j.0 < 2 ^ 64 = omega (arith, varint-below 9 s i.2, p.0) in
    let l : length (varint_bytes (length j.0)) + length j.0 + length r ≤ length s =
    omega (arith, varint-shortest s i.2, ap (λ a. length (varint_bytes a)) p.0, p.1, ap length x) in
    subst (λ g. Valued n w s r g) q (refl, z, v, l)

long-valued : (n w : ℕ) (s : List ℕ) (f : Field) (r : List ℕ) → fixed_reader 8 v64 n s ≡ got f r → Valued n w s r f
long-valued n w s f r e =
    let i = then-got (part 8 s) (λ b. give (field n (v64 b))) e in
    let q : field n (v64 i.0) ≡ f = cc i.3 in
    let x : i.1 ≡ r = cc i.3 in
    let l : length r ≤ length s = omega (arith, (part-got 8 s i.2).1, ap length x) in
    subst (λ g. Valued n w s r g) q (refl, l)

short-valued : (n w : ℕ) (s : List ℕ) (f : Field) (r : List ℕ) → w ≡ 5 → fixed_reader 4 v32 n s ≡ got f r → Valued n w s r f
short-valued n w s f r z e =
    let i = then-got (part 4 s) (λ b. give (field n (v32 b))) e in
    let p = part-got 4 s i.2 in
    let q : field n (v32 i.0) ≡ f = cc i.3 in
    let x : i.1 ≡ r = cc i.3 in
    let l : length i.0 + length r ≤ length s = omega (arith, p.1, ap length x) in
    subst (λ g. Valued n w s r g) q (refl, z, p.0, l)

choose-cases : (t : Bool) (a b : Got Field) {f : Field} {r : List ℕ} → cond t a b ≡ got f r
    → ((t ≡ true) × (a ≡ got f r)) ⊎ (b ≡ got f r)
choose-cases true a b e = inl (refl, e)
choose-cases false a b e = inr e

value-valued : (n w : ℕ) (s : List ℕ) (f : Field) (r : List ℕ) → value_of n w s ≡ got f r → Valued n w s r f
unfolding value_of
value-valued n w s f r e =
    let short = cond (eqb w 5) (fixed_reader 4 v32 n s) nothing in
    let len = cond (eqb w 2) (len_reader n s) short in
    let long = cond (eqb w 1) (fixed_reader 8 v64 n s) len in
    ⊎_elim (λ z. int-valued n w s f r (eqb-true w 0 z.0) z.1)
    (λ a. ⊎_elim (λ z. long-valued n w s f r z.1)
    (λ b. ⊎_elim (λ z. len-valued n w s f r (eqb-true w 2 z.0) z.1)
    (λ c.
    let z = choose-got (eqb w 5) (fixed_reader 4 v32 n s) c in
    short-valued n w s f r (eqb-true w 5 z.0) z.1)
    (choose-cases (eqb w 2) (len_reader n s) short b)) (choose-cases (eqb w 1) (fixed_reader 8 v64 n s) len a))
    (choose-cases (eqb w 0) (int_reader n s) long e)

abbrev Sound : List ℕ → List ℕ → Field → Type 0
Sound xs r (field n v) = FieldNumber n × Ranged v × (size_of n v + length r ≤ length xs)

tagged : (xs : List ℕ) (t : ℕ) (s : List ℕ) (f : Field) (r : List ℕ) → t < 2 ^ 32 → 7 < t → length (varint_bytes t) + length s ≤ length xs
    → Valued (t / 8) (t % 8) s r f → Sound xs r f
tagged xs t s (field m (vint u)) r h k l v =
    let e : t ≡ 8 * m + 0 = omega (arith, v.0, v.1) in (
      record { above = omega (arith, v.0); below = omega (arith, v.0) },
      v.2,
      omega (arith, v.3, length-append (tag m 0) (varint_bytes u), ap (λ x. length (varint_bytes x)) e),
    )
tagged xs t s (field m (v64 b)) r h k l v = (record { above = omega (arith, v.0); below = omega (arith, v.0) }, tt, omega (arith, v.1))
tagged xs t s (field m (vlen b)) r h k l v =
    let e : t ≡ 8 * m + 2 = omega (arith, v.0, v.1) in
    (record { above = omega (arith, v.0); below = omega (arith, v.0) }, v.2, omega (arith, v.3, len-length m b, ap (λ x. length (varint_bytes x)) e))
tagged xs t s (field m (v32 b)) r h k l v =
    let e : t ≡ 8 * m + 5 = omega (arith, v.0, v.1) in
    (record { above = omega (arith, v.0); below = omega (arith, v.0) }, v.2, omega (arith, v.3, length-append (tag m 5) b, ap (λ x. length (varint_bytes x)) e))

field-sound : (xs : List ℕ) (f : Field) (r : List ℕ) → read_field xs ≡ got f r → Sound xs r f
unfolding read_field
field-sound xs f r e =
    let i = then-got (varint xs) (λ t. only (ltb t (2 ^ 32)) (only (ltb 7 t) (value_of (t / 8) (t % 8)))) e in
    let t = i.0 in
    let s = i.1 in
    let a = choose-got (ltb t (2 ^ 32)) (only (ltb 7 t) (value_of (t / 8) (t % 8)) s) i.3 in
    let b = choose-got (ltb 7 t) (value_of (t / 8) (t % 8) s) a.1 in
    tagged xs t s f r (ltb-true t (2 ^ 32) a.0) (ltb-true 7 t b.0) (varint-shortest xs i.2) (value-valued (t / 8) (t % 8) s f r b.1)

-- the framing -------------------------------------------------------------------------------

abbrev AllSound : List Field → Type 0
AllSound [] = Unit {0}
AllSound (field n v ∷ fs) = FieldNumber n × (Ranged v × AllSound fs)

abbrev sizes : List Field → ℕ
sizes [] = 0
sizes (field n v ∷ fs) = size_of n v + sizes fs

cons-some : (f : Field) (o : Option (List Field)) {fs : List Field} → cons_o f o ≡ some fs → (gs : List Field) × (o ≡ some gs) × (f ∷ gs ≡ fs)
cons-some f none e = none-some e
cons-some f (some gs) e = (gs, refl, cc)

no_fields : (fs : List Field) (l : ℕ) → some [] ≡ some fs → AllSound fs × (sizes fs ≤ l)
no_fields fs l e = let q : [] ≡ fs = cc in subst (λ g. AllSound g × (sizes g ≤ l)) q (tt, omega arith)

fields-sound : (n : ℕ) (xs : List ℕ) (fs : List Field) → fields_in n xs ≡ some fs → AllSound fs × (sizes fs ≤ length xs)
unfolding fields_in
fields-sound zero [] fs e = no_fields fs 0 e
fields-sound zero (b ∷ xs) fs e = none-some e
fields-sound (suc n) [] fs e = no_fields fs 0 e
fields-sound (suc n) (b ∷ xs) fs e = go (read_field (b ∷ xs)) refl e (λ r gs h. fields-sound n r gs h)
  where
    go : (o : Got Field) → read_field (b ∷ xs) ≡ o → then_fields o (λ r. fields_in n r) ≡ some fs
        → ((r : List ℕ) (gs : List Field) → fields_in n r ≡ some gs → AllSound gs × (sizes gs ≤ length r)) → AllSound fs × (sizes fs ≤ suc (length xs))
    go nothing q h ih = none-some h
    go (got (field m v) r) q h ih =
        let c = cons-some (field m v) (fields_in n r) h in
        let s = field-sound (b ∷ xs) (field m v) r q in
        let j = ih r c.0 c.1 in
        let l : size_of m v + sizes c.0 ≤ suc (length xs) = omega (arith, s.2, j.1) in
        subst (λ g. AllSound g × (sizes g ≤ suc (length xs))) c.2 ((s.0, (s.1, j.0)), l)

-- the items of a level ------------------------------------------------------------------------

-- what is listed is read the same from its own shortest form
abbrev Held : (Value → Option Content) → Content → Type 0
Held read (c_int w) = (w < 2 ^ 64) × (read (vint w) ≡ some (c_int w))
Held read (c_raw b) = (length b < 2 ^ 64) × (read (vlen b) ≡ some (c_raw b))
Held read (c_fix b) = (length b ≡ 4) × (read (v32 b) ≡ some (c_fix b))
Held read (c_msg k b) = (length b < 2 ^ 64) × ((x : List ℕ) → read (vlen x) ≡ some (c_msg k x))

abbrev item_size : ℕ → Content → ℕ
item_size n (c_int w) = length (int_field n w)
item_size n (c_raw b) = length (len_field n b)
item_size n (c_fix b) = length (fix_field n b)
item_size n (c_msg k b) = length (len_field n b)

abbrev Kept : (Value → Option Content) → Value → Content → Type 0
Kept read v c = Held read c × ((n : ℕ) → item_size n c ≤ size_of n v)

flag-kept : (u : ℕ) (t : Bool) → eqb u 0 ≡ t → Kept (λ v. decode Flag v) (vint u) (c_int (cond t 0 1))
flag-kept u true e = ((omega arith, refl), λ n. int-grows n 0 u (omega arith))
flag-kept u false e = ((omega arith, refl), λ n. int-grows n 1 u (one u (eqb-false u 0 e)))
  where
    one : (u : ℕ) → (u ≡ 0 → ⊥) → 1 ≤ u
    one zero h = absurd (h refl)
    one (suc u) h = omega arith

tested : (f : Form) (u : ℕ) (t : Bool) (c : Content) → u < 2 ^ 64 → (t ≡ true → decode f (vint u) ≡ some (c_int u)) → guard t (c_int u) ≡ some c
    → Kept (λ v. decode f v) (vint u) c
tested f u t c h g e =
    let q = guard-some t (c_int u) e in
    subst (λ c. Kept (λ v. decode f v) (vint u) c) q.1 ((h, g q.0), λ n. omega arith)

decoded : (f : Form) (v : Value) (c : Content) → Ranged v → decode f v ≡ some c → Kept (λ v. decode f v) v c
decoded Int64 (vint u) c h e = let q : c_int u ≡ c = cc in subst (λ c. Kept (λ v. decode Int64 v) (vint u) c) q ((h, refl), λ n. omega arith)
decoded Int32 (vint u) c h e = tested Int32 u (is_int32 u) c h (λ t. guarded t) e
decoded (Named k) (vint u) c h e = tested (Named k) u (among u (names_of k)) c h (λ t. guarded t) e
decoded Flag (vint u) c h e =
    let q : c_int (cond (eqb u 0) 0 1) ≡ c = cc in subst (λ c. Kept (λ v. decode Flag v) (vint u) c) q (flag-kept u (eqb u 0) refl)
decoded Bytes (vint u) c h e = none-some e
decoded Opaque (vint u) c h e = none-some e
decoded Float (vint u) c h e = none-some e
decoded (Nested k) (vint u) c h e = none-some e
decoded f (v64 b) c h e = none-some e
decoded Int64 (vlen b) c h e = none-some e
decoded Int32 (vlen b) c h e = none-some e
decoded (Named k) (vlen b) c h e = none-some e
decoded Flag (vlen b) c h e = none-some e
decoded Bytes (vlen b) c h e = let q : c_raw b ≡ c = cc in subst (λ c. Kept (λ v. decode Bytes v) (vlen b) c) q ((h, refl), λ n. omega arith)
decoded Opaque (vlen b) c h e =
    let q : c_raw [] ≡ c = cc in
    subst (λ c. Kept (λ v. decode Opaque v) (vlen b) c) q ((omega arith, refl), λ n. len_grows n [] b (omega arith))
decoded Float (vlen b) c h e = none-some e
decoded (Nested k) (vlen b) c h e =
    let q : c_msg k b ≡ c = cc in subst (λ c. Kept (λ v. decode (Nested k) v) (vlen b) c) q ((h, λ x. refl), λ n. omega arith)
decoded Int64 (v32 b) c h e = none-some e
decoded Int32 (v32 b) c h e = none-some e
decoded (Named k) (v32 b) c h e = none-some e
decoded Flag (v32 b) c h e = none-some e
decoded Bytes (v32 b) c h e = none-some e
decoded Opaque (v32 b) c h e = none-some e
decoded Float (v32 b) c h e = let q : c_fix b ≡ c = cc in subst (λ c. Kept (λ v. decode Float v) (v32 b) c) q ((h, refl), λ n. omega arith)
decoded (Nested k) (v32 b) c h e = none-some e

added : (f : Form) (n : ℕ) (v : Value) (acc : List Item) {out : List Item} → Ranged v → add n acc (decode f v) ≡ some out
    → (c : Content) × Kept (λ v. decode f v) v c × (acc ++ (item n c ∷ []) ≡ out)
added f n v acc {out} h e = go (decode f v) refl e
  where
    go : (o : Option Content) → decode f v ≡ o → add n acc o ≡ some out → (c : Content) × Kept (λ v. decode f v) v c × (acc ++ (item n c ∷ []) ≡ out)
    go none q e = none-some e
    go (some c) q e = (c, decoded f v c h q, cc)

-- a field is passed over, or listed
abbrev Stepped : Rule → Bool → ℕ → Value → List Item → List Item → Type 0
Stepped r s n v acc out = (acc ≡ out) ⊎ ((c : Content) × Kept (λ v. says r s v) v c × (acc ++ (item n c ∷ []) ≡ out))

step-cases : (r : Rule) (st : Bool) (n : ℕ) (v : Value) (acc : List Item) {out : List Item} → Ranged v → by_rule r st n v acc ≡ some out
    → Stepped r (is_some (find n acc)) n v acc out
step-cases Unlisted true n v acc h e = none-some e
step-cases Unlisted false n v acc h e = inl (cc)
step-cases Refused st n v acc h e = none-some e
step-cases (Single f) st n v acc h e = inr (added f n v acc h e)
step-cases (Once f) st n v acc {out} h e = go (is_some (find n acc)) e
  where
    go : (s : Bool) → cond s none (add n acc (decode f v)) ≡ some out → Stepped (Once f) s n v acc out
    go true e = none-some e
    go false e = inr (added f n v acc h e)
step-cases (Repeated f) st n v acc h e = inr (added f n v acc h e)

abbrev item_sizes : List Item → ℕ
item_sizes [] = 0
item_sizes (item n c ∷ is) = item_size n c + item_sizes is

abbrev ItemsFit : Kind → List ℕ → List Item → Type 0
ItemsFit k ns [] = Unit {0}
ItemsFit k ns (item n c ∷ is) = FieldNumber n × (Held (λ v. says (rule_of k n) (among n ns) v) c × ItemsFit k (n ∷ ns) is)

-- the items that the fields fs add to acc
record Grown (k : Kind) (ns : List ℕ) (fs : List Field) (acc out : List Item) : Type 0 where
  new : List Item
  whole : out ≡ acc ++ new
  fit : ItemsFit k ns new
  short : item_sizes new ≤ sizes fs

items-sound : (k : Kind) (fs : List Field) (acc out : List Item) (ns : List ℕ) → Known ns acc → AllSound fs → items k fs acc ≡ some out → Grown k ns fs acc out
unfolding items
items-sound k [] acc out ns e a h =
    let q : acc ≡ out = cc in
    record { new = []; whole = sym (append-nil acc ∙ q); fit = tt; short = omega arith }
items-sound k (field n v ∷ fs) acc out ns e a h =
    let i = then_some (step k (field n v) acc) (λ a. items k fs a) h in
    ⊎_elim (λ q.
    let j = items-sound k fs acc out ns e a.1.1 (ap (items k fs) q ∙ i.2) in
    record { new = j.new; whole = j.whole; fit = j.fit; short = omega (arith, j.short) })
    (λ q.
    let j = items-sound k fs (acc ++ (item n q.0 ∷ [])) out (n ∷ ns) (known-snoc n q.0 e) a.1.1 (ap (items k fs) q.2 ∙ i.2) in
    record {
      new = item n q.0 ∷ j.new;
      whole = j.whole ∙ append_assoc acc (item n q.0 ∷ []) j.new;
      fit = (a.0, (subst (λ s. Held (λ v. says (rule_of k n) s v) q.0) (e.same n) q.1.0, j.fit));
      short = omega (arith, q.1.1 n, j.short);
    })
    (step-cases (rule_of k n) (strict_of k) n v acc a.1.0 i.1)

-- every level ---------------------------------------------------------------------------------

-- what a reader of messages keeps
Keeps : (Kind → List ℕ → Option Tree) → Type 0
Keeps below = (k : Kind) (b : List ℕ) (s : Tree) → below k b ≡ some s → Fits k s × (length (encode s) ≤ length b)

one-opened : (below : Kind → List ℕ → Option Tree) → Keeps below → (k : Kind) (ns : List ℕ) (n : ℕ) (c : Content) (u t : Tree) (z : ℕ) → FieldNumber n
    → Held (λ v. says (rule_of k n) (among n ns) v) c → FitsAfter k (n ∷ ns) u → length (encode u) ≤ z → open_one below n c u ≡ some t
    → FitsAfter k ns t × (length (encode t) ≤ item_size n c + z)
unfolding encode Keeps
one-opened below ih k ns n (c_int w) u t z m h f l e =
    let q : int n w u ≡ t = cc in
    let j : length (int_field n w ++ encode u) ≤ length (int_field n w) + z = omega (arith, length-append (int_field n w) (encode u)) in
    subst (λ t. FitsAfter k ns t × (length (encode t) ≤ length (int_field n w) + z)) q (ints m h.0 h.1 f, j)
one-opened below ih k ns n (c_raw b) u t z m h f l e =
    let q : raw n b u ≡ t = cc in
    let j : length (len_field n b ++ encode u) ≤ length (len_field n b) + z = omega (arith, length-append (len_field n b) (encode u)) in
    subst (λ t. FitsAfter k ns t × (length (encode t) ≤ length (len_field n b) + z)) q (raws m h.0 h.1 f, j)
one-opened below ih k ns n (c_fix b) u t z m h f l e =
    let q : fix n b u ≡ t = cc in
    let j : length (fix_field n b ++ encode u) ≤ length (fix_field n b) + z = omega (arith, length-append (fix_field n b) (encode u)) in
    subst (λ t. FitsAfter k ns t × (length (encode t) ≤ length (fix_field n b) + z)) q (fixs m h.0 h.1 f, j)
one-opened below ih k ns n (c_msg k' b) u t z m h f l e =
    let i = map-some (λ s. sub n s u) (below k' b) e in
    let s = i.0 in
    let g = ih k' b s i.1 in
    let v : length (encode s) < 2 ^ 64 = omega (arith, g.1, h.0) in
    let j : length (len_field n (encode s) ++ encode u) ≤ length (len_field n b) + z =
    omega (arith, length-append (len_field n (encode s)) (encode u), len_grows n (encode s) b g.1) in
    subst (λ t. FitsAfter k ns t × (length (encode t) ≤ length (len_field n b) + z)) i.2 (subs k' m v (h.1 (encode s)) g.0 f, j)

all-opened : (below : Kind → List ℕ → Option Tree) → Keeps below → (k : Kind) (ns : List ℕ) (is : List Item) (t : Tree) → ItemsFit k ns is
    → open_all below is ≡ some t → FitsAfter k ns t × (length (encode t) ≤ item_sizes is)
unfolding open_all encode
all-opened below ih k ns [] t a e =
    let q : done ≡ t = cc in
    let j : length (encode done) ≤ 0 = omega arith in
    subst (λ t. FitsAfter k ns t × (length (encode t) ≤ 0)) q (ends, j)
all-opened below ih k ns (item n c ∷ is) t a e =
    let i = then_some (open_all below is) (λ u. open_one below n c u) e in
    let j = all-opened below ih k (n ∷ ns) is i.0 a.1.1 i.1 in
    one-opened below ih k ns n c i.0 t (item_sizes is) a.0 a.1.0 j.0 j.1 i.2

items-some : (k : Kind) (o : Option (List Field)) (acc : List Item) {out : List Item} → items_o k o acc ≡ some out
    → (fs : List Field) × (o ≡ some fs) × (items k fs acc ≡ some out)
items-some k none acc e = none-some e
items-some k (some fs) acc e = (fs, refl, e)

in-sound : (d : ℕ) → Keeps (λ k b. listed_in d k b)
unfolding Keeps listed_in level fields_of
in-sound zero k m t e = none-some e
in-sound (suc d) k m t e =
    let i = then_some (level k m) (λ is. open_all (λ k' b. listed_in d k' b) is) e in
    let f = items-some k (fields_of m) [] i.1 in
    let s = fields-sound (length m) m f.0 f.1 in
    let g = items-sound k f.0 [] i.0 [] known-none s.0 f.2 in
    let o = all-opened (λ k' b. listed_in d k' b) (λ k' b s h. in-sound d k' b s h) k [] g.new t g.fit
    (ap (open_all (λ k' b. listed_in d k' b)) (sym g.whole) ∙ i.2) in
    (o.0, omega (arith, o.1, g.short, s.1))

-- THE THEOREMS: a tree that is read of any bytes fits; its own bytes are no longer; and they are read as the same tree
pub listed-fits : (k : Kind) (m : List ℕ) (t : Tree) → listed k m ≡ some t → Fits k t
unfolding listed Keeps
listed-fits k m t e = (in-sound 5 k m t e).0

pub listed-shortest : (k : Kind) (m : List ℕ) (t : Tree) → listed k m ≡ some t → length (encode t) ≤ length m
unfolding listed Keeps
listed-shortest k m t e = (in-sound 5 k m t e).1

pub listed-again : (k : Kind) (m : List ℕ) (t : Tree) → listed k m ≡ some t → listed k (encode t) ≡ some t
listed-again k m t e = read_back (listed-fits k m t e)
