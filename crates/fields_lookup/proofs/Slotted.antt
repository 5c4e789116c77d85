-- A number or a part out of the slots of a level that decodes.
use Prim.Native.Nat.{ℕ, zero, suc, ◌+◌, ◌-◌, ◌≤◌, ◌<◌, ◌^◌}
use native.Mathlib.Omega.{arith}
use native.Mathlib.Nat.{add-sub_cancel_left}
use mathlib.Core.Path.{◌≡◌, refl, sym, ap, ◌∙◌, subst}
use mathlib.Core.List.{List, [], ◌∷◌}
use mathlib.Core.Option.{Option, none, some}
use mathlib.Core.Bool.{Bool, true, false}
use Rattle.std.specs.Bool.{then_some}
use Rattle.std.specs.Prelude.{ℤ, Some, None, IfSome, MatchOption, IsSomeAnd}
use Rattle.std.specs.Prelude as std
use Rattle.base_integers.specs.Signed.{signed_of, word_of}
use Rattle.base_integers.specs.SignedLaws.{word-signed}
use lib.ListN.{length, take, drop, get_or, length-take, length-drop}
use lib.Seq.{drop-drop, take-length}
use Rattle.fields_wire.specs.Wire.{Value, vint, v64, vlen, v32, fields_of, fields_in}
use Rattle.fields_schema.specs.Rules.{names_of, rule_of}
use Rattle.fields_schema.specs.Tree.{map_o, guard, is_some, among, Content, c_int, c_raw, c_msg, Item, is_int32, of_int, of_bytes, of_fixed, decode, find, items, level, Tree, done, open_all, listed_in, listed, int_at, raw_at, sub_at, tree_in}
use Rattle.base_definitions.specs.Bits.{bit}
use Rattle.fields_rule.specs.Judged.{is_single, Sole}
use Rattle.fields_decode.specs.Slots.{find_last, Sized, Holds, Tells, Shows}
use Rattle.fields_schema.specs.declared.Kind.{Kind}
use Rattle.fields_schema.proofs.OptionLaws.{nothing-some, none_of}
use Rattle.fields_schema.specs.declared.Form.{Form}
use Rattle.fields_schema.specs.declared.Form.TheVariants.{Int64, Int32, Named, Flag, Bytes, Opaque, Float, Nested}
use Rattle.fields_schema.specs.declared.Rule.{Rule}
use Rattle.fields_schema.specs.declared.Rule.TheVariants.{Unlisted, Refused, Once, Single, Repeated}
use Rattle.fields_decode.specs.declared.slots.Slots.{Slots}
use Rattle.fields_lookup.specs.Views.{tree_of, bytes_at, no_part, Inside, Lies, Level, SlotInside, Singular, is_numeric, is_number, Alone, num_view, signed_view, NumIs, Sub, PartIs}
use Rattle.fields_lookup.specs.Level.{Is, Decodes, int_c, raw_c, sub_c, IsMessage}
use Rattle.fields_lookup.proofs.LevelLaws.{all_more, level_all, level-decodes, level-once, last-there, sole-last, level-of, int-look, raw-look, sub-look, there-look, open-message}
use Rattle.fields_lookup.specs.declared.parts.Part.{Part}

-- the forms ------------------------------------------------------------------------------------
guard-int : (t : Bool) (v : ℕ) (c : Content) → guard t (c_int v) ≡ some c → (x : ℕ) × (c ≡ c_int x)
guard-int true v c e = (v, (cc))
guard-int false v c e = nothing-some e

abbrev Numeric : Form → Type 0
Numeric f = (v : Value) (c : Content) → decode f v ≡ some c → (x : ℕ) × (c ≡ c_int x)

numeric : (f : Form) → ((v : ℕ) (c : Content) → of_int f v ≡ some c → (x : ℕ) × (c ≡ c_int x)) → ((b : List ℕ) → of_bytes f b ≡ none) → ((b : List ℕ) → of_fixed f b ≡ none) → Numeric f
numeric f h g i (vint v) c e = h v c e
numeric f h g i (v64 b) c e = nothing-some e
numeric f h g i (vlen b) c e = nothing-some (sym (g b) ∙ e)
numeric f h g i (v32 b) c e = nothing-some (sym (i b) ∙ e)

numeric-form : (f : Form) → is_numeric f ≡ true → Numeric f
numeric-form Int64 e = numeric Int64 (λ v c q. guard-int true v c q) (λ b. refl) (λ b. refl)
numeric-form Int32 e = numeric Int32 (λ v c q. guard-int (is_int32 v) v c q) (λ b. refl) (λ b. refl)
numeric-form (Named x) e = numeric (Named x) (λ v c q. guard-int (among v (names_of x)) v c q) (λ b. refl) (λ b. refl)
numeric-form Flag e = numeric Flag (λ v c q. guard-int true _ c q) (λ b. refl) (λ b. refl)
numeric-form Bytes e = let z : ◌≡◌ {A = ℕ} 0 1 = cc in absurd (omega arith)
numeric-form Opaque e = let z : ◌≡◌ {A = ℕ} 0 1 = cc in absurd (omega arith)
numeric-form Float e = let z : ◌≡◌ {A = ℕ} 0 1 = cc in absurd (omega arith)
numeric-form (Nested k) e = let z : ◌≡◌ {A = ℕ} 0 1 = cc in absurd (omega arith)

number-form : (r : Rule) → is_number r ≡ true → (f : Form) × Singular f r × Numeric f
number-form Unlisted e = let z : ◌≡◌ {A = ℕ} 0 1 = cc in absurd (omega arith)
number-form Refused e = let z : ◌≡◌ {A = ℕ} 0 1 = cc in absurd (omega arith)
number-form (Once f) e = (f, refl, numeric-form f e)
number-form (Single f) e = (f, refl, numeric-form f e)
number-form (Repeated f) e = let z : ◌≡◌ {A = ℕ} 0 1 = cc in absurd (omega arith)

singular-single : (r : Rule) (f : Form) → Singular f r → is_single r ≡ true
singular-single Unlisted f s = absurd s
singular-single Refused f s = absurd s
singular-single (Once g) f s = refl
singular-single (Single g) f s = refl
singular-single (Repeated g) f s = absurd s

raw_of : (v : Value) (c : Content) → decode Bytes v ≡ some c → (b : List ℕ) × (c ≡ c_raw b)
raw_of (vint v) c e = nothing-some e
raw_of (v64 b) c e = nothing-some e
raw_of (vlen b) c e = (b, (cc))
raw_of (v32 b) c e = nothing-some e

message-of : (k : Kind) (v : Value) (c : Content) → decode (Nested k) v ≡ some c → (b : List ℕ) × (c ≡ c_msg k b)
message-of k (vint v) c e = nothing-some e
message-of k (v64 b) c e = nothing-some e
message-of k (vlen b) c e = (b, (cc))
message-of k (v32 b) c e = nothing-some e

some_of : {A : Type 0} (o : Option A) → is_some o ≡ true → (a : A) × (o ≡ some a)
some_of none e = let z : ◌≡◌ {A = ℕ} 0 1 = cc in absurd (omega arith)
some_of (some a) e = (a, refl)

-- a level that decodes ---------------------------------------------------------------------------
module _ (k : Kind) (m : List ℕ) (t : Slots) (y : Level k m t) where
  its : List Item
  its = (level-of k m y.reads).0

  is-level : level k m ≡ some its
  unfolding its
  is-level = (level-of k m y.reads).1

  is_open : open_all (λ k b. listed k b) its ≡ some (tree_of k m)
  unfolding its
  is_open = (level-of k m y.reads).2

  holds : Holds k m t its
  holds = subst (λ (o : Option (List Item)). Tells k m t o) is-level y.tells

  pub level-sized : Sized t
  level-sized = holds.sized

  module _ (n : ℕ) (f : Form) (q : Singular f (rule_of k n)) where
    single : is_single (rule_of k n) ≡ true
    single = singular-single (rule_of k n) f q

    there : bit t.has n ≡ is_some (find_last n its)
    there = holds.marks.marks n single ∙ sym (last-there n its)

    present : bit t.has n ≡ true → (c : Content) × (find_last n its ≡ some c)
    present e = some_of (find_last n its) (sym there ∙ e)

    absent : bit t.has n ≡ false → find_last n its ≡ none
    absent e = none_of (find_last n its) (sym there ∙ e)

    decoded : {c : Content} → find_last n its ≡ some c → (v : Value) × (decode f v ≡ some c)
    decoded e = level-decodes k n f m its q is-level e

    shown : {c d : Content} → find_last n its ≡ some c → c ≡ d → Shows m (get_or t.value n 0) (get_or t.len n 0) d
    shown {c} e w = subst (λ (d : Content). Shows m (get_or t.value n 0) (get_or t.len n 0) d) w (holds.shows n c single e)

    int_is : ((c : Content) → Decodes f c → Is int_c c) → {o : Option Content} → find_last n its ≡ o → int_at n (tree_of k m) ≡ int_c o
    int_is g e = int-look n its (tree_of k m) is_open (all_more (Decodes f) (Is int_c) n its g (level_all k n f m its q is-level)) ∙ ap int_c e

    raw-is : ((c : Content) → Decodes f c → Is raw_c c) → {o : Option Content} → find_last n its ≡ o → raw_at n (tree_of k m) ≡ raw_c o
    raw-is g e = raw-look n its (tree_of k m) is_open (all_more (Decodes f) (Is raw_c) n its g (level_all k n f m its q is-level)) ∙ ap raw_c e

    -- where it occurs at most once
    module _ (a : Alone (rule_of k n) t) where
      sole : Sole n its
      sole = go (rule_of k n) refl a
        where
          go : (r : Rule) → rule_of k n ≡ r → Alone r t → Sole n its
          go Unlisted e h = absurd h
          go Refused e h = absurd h
          go (Once g) e h = level-once k n g e m is-level
          go (Single g) e h = holds.marks.alone h n single
          go (Repeated g) e h = absurd h

      sole-find : find_last n its ≡ find n its
      sole-find = sole-last n its sole

      sub_is : {o : Option Content} → find_last n its ≡ o → sub_at n (tree_of k m) ≡ sub_c o
      sub_is e = sub-look n its (tree_of k m) is_open sole ∙ ap sub_c (sym sole-find ∙ e)

  -- whether there is a message of the number
  message-there : (n : ℕ) (k' : Kind) → Singular (Nested k') (rule_of k n) → bit t.has n ≡ is_some (sub_at n (tree_of k m))
  message-there n k' q =
      there n (Nested k') q ∙ sym (there-look n its (tree_of k m) is_open (all_more (Decodes (Nested k')) IsMessage n its sort (level_all k n (Nested k') m its q is-level)))
    where
      sort : (c : Content) → Decodes (Nested k') c → IsMessage c
      sort c d = let x = message-of k' d.0 c d.1 in subst IsMessage (sym x.1) tt

  int-sort : (f : Form) → Numeric f → (c : Content) → Decodes f c → Is int_c c
  int-sort f g c d = let x = g d.0 c d.1 in (x.0, ap (λ c. int_c (some c)) x.1)

  number-here : (n : ℕ) → is_number (rule_of k n) ≡ true → bit t.has n ≡ true → some (get_or t.value n 0) ≡ int_at n (tree_of k m)
  number-here n i e =
      let g = number-form (rule_of k n) i in
      let c = present n g.0 g.1 e in
      let d = decoded n g.0 g.1 c.1 in
      let x = g.2 d.0 c.0 d.1 in
      let w : get_or t.value n 0 ≡ x.0 = shown n g.0 g.1 c.1 x.1 in
      ap some w ∙ sym (int_is n g.0 g.1 (int-sort g.0 g.2) c.1 ∙ ap (λ c. int_c (some c)) x.1)

  number-none : (n : ℕ) → is_number (rule_of k n) ≡ true → bit t.has n ≡ false → none ≡ int_at n (tree_of k m)
  number-none n i e = let g = number-form (rule_of k n) i in sym (int_is n g.0 g.1 (int-sort g.0 g.2) (absent n g.0 g.1 e))

pub num-is : (t : Slots) (n : ℕ) (b : Bool) → b ≡ bit t.has n → NumIs t n (then_some b (get_or t.value n 0))
num-is t n true e k m l i = number-here k m t l n i (sym e)
num-is t n false e k m l i = number-none k m t l n i (sym e)

-- of a number read as a signed one the word is the number
pub signed-is : (x : std.Option ℕ) (r : std.Option ℤ) → IfSome x (λ v. v < 2 ^ 64) → MatchOption x (r ≡ None) (λ v. IsSomeAnd r (λ w. w ≡ signed_of v)) → signed_view r ≡ num_view x
signed-is None r f h = ap signed_view h
signed-is (Some v) (Some w) f h = ap some (ap word_of h ∙ word-signed v f)
signed-is (Some v) None f h = absurd h

-- parts ------------------------------------------------------------------------------------------
pub part-part : (l a n : ℕ) (x : List ℕ) → a + l ≤ n → take l (drop a (take n x)) ≡ take l (drop a x)
part-part zero zero n x h = refl
part-part (suc l) zero zero x h = absurd (omega arith)
part-part (suc l) zero (suc n) [] h = refl
part-part (suc l) zero (suc n) (y ∷ x) h = ap (λ (r : List ℕ). y ∷ r) (part-part l zero n x (omega arith))
part-part l (suc a) zero x h = absurd (omega arith)
part-part l (suc a) (suc n) [] h = refl
part-part l (suc a) (suc n) (y ∷ x) h = part-part l a n x (omega arith)

pub length_at : (s : List ℕ) (p : Part) → Inside s p → length (bytes_at s p) ≡ p.len
unfolding bytes_at
length_at s p h = omega (arith, length-take p.len (drop p.start s), length-drop p.start s)

-- a part of a part
pub inner-at : (s : List ℕ) (p : Part) (b : Bool) (a l : ℕ) → Inside s p → a + l ≤ length (bytes_at s p)
    → bytes_at s (record { has = b; start = p.start + a; len = l }) ≡ take l (drop a (bytes_at s p))
unfolding bytes_at
inner-at s p b a l i h =
    let w : a + l ≤ p.len = omega (arith, length_at s p i) in
    sym (part-part l a p.len (drop p.start s) w ∙ ap (take l) (drop-drop a p.start s))

pub nil-at : (s : List ℕ) → bytes_at s no_part ≡ []
unfolding bytes_at
nil-at s = refl

pub nil-reads : (k : Kind) → listed k [] ≡ some done
unfolding listed listed_in level fields_of fields_in items open_all
nil-reads k = refl

pub lies-no : (s : List ℕ) → Lies s no_part
lies-no s = record { inside = omega arith; empty = nil-at s }

sub_of : (k : Kind) (s : List ℕ) (r : Part) (x : List ℕ) (u : Tree) (o : Option Tree) → bytes_at s r ≡ x → listed k x ≡ some u → tree_in o ≡ u → r.has ≡ is_some o → Sub k s r o
unfolding tree_of
sub_of k s r x u o e q w h =
    let z : listed k (bytes_at s r) ≡ some u = ap (listed k) e ∙ q in
    record { reads = ap is_some z; tree = ap tree_in z ∙ sym w; here = h }

raw-sort : (c : Content) → Decodes Bytes c → Is raw_c c
raw-sort c d = let x = raw_of d.0 c d.1 in (x.0, ap (λ c. raw_c (some c)) x.1)

module _ (s : List ℕ) (p : Part) (t : Slots) (n : ℕ) (i : Inside s p) (b : Bool) (e : b ≡ bit t.has n) where
  pub part_no : b ≡ false → PartIs s p t n no_part
  part_no y = record {
    bytes = λ k l q. sym (raw-is k (bytes_at s p) t l n Bytes q raw-sort (absent k (bytes_at s p) t l n Bytes q (sym e ∙ y)));
    message = λ k k' l q a. let w = sub_is k (bytes_at s p) t l n (Nested k') q a (absent k (bytes_at s p) t l n (Nested k') q (sym e ∙ y)) in
        sub_of k' s no_part [] done (sub_at n (tree_of k (bytes_at s p))) (nil-at s) (nil-reads k') (ap tree_in w) (sym (ap is_some w));
    here = λ k k' l q. sym (sym (message-there k (bytes_at s p) t l n k' q) ∙ sym e ∙ y);
    lies = lies-no s;
  }

  module _ (y : b ≡ true) (h : SlotInside (bytes_at s p) t n) where
    fits : get_or t.value n 0 + get_or t.len n 0 ≤ length (bytes_at s p)
    fits = h (sym e ∙ y)

    pub part-fits : p.start + (get_or t.value n 0 + get_or t.len n 0) ≤ length s
    part-fits = omega (arith, length_at s p i, fits)

    same : bytes_at s (record { has = true; start = p.start + get_or t.value n 0; len = get_or t.len n 0 }) ≡ take (get_or t.len n 0) (drop (get_or t.value n 0) (bytes_at s p))
    same = inner-at s p true (get_or t.value n 0) (get_or t.len n 0) i fits

    pub part-is : PartIs s p t n (record { has = true; start = p.start + get_or t.value n 0; len = get_or t.len n 0 })
    part-is = record { bytes = bytes; message = message; here = λ k k' l q. sym (sym (message-there k (bytes_at s p) t l n k' q) ∙ sym e ∙ y); lies = record { inside = omega (arith, part-fits); empty = refl } }
      where
        bytes : (k : Kind) → Level k (bytes_at s p) t → Singular Bytes (rule_of k n)
            → some (bytes_at s (record { has = true; start = p.start + get_or t.value n 0; len = get_or t.len n 0 })) ≡ raw_at n (tree_of k (bytes_at s p))
        bytes k l q =
            let c = present k (bytes_at s p) t l n Bytes q (sym e ∙ y) in
            let d = decoded k (bytes_at s p) t l n Bytes q c.1 in
            let x = raw_of d.0 c.0 d.1 in
            let w = shown k (bytes_at s p) t l n Bytes q c.1 x.1 in
            ap some (same ∙ w.0) ∙ sym (raw-is k (bytes_at s p) t l n Bytes q raw-sort c.1 ∙ ap (λ c. raw_c (some c)) x.1)

        message : (k k' : Kind) → Level k (bytes_at s p) t → Singular (Nested k') (rule_of k n) → Alone (rule_of k n) t
            → Sub k' s (record { has = true; start = p.start + get_or t.value n 0; len = get_or t.len n 0 }) (sub_at n (tree_of k (bytes_at s p)))
        message k k' l q a =
            let c = present k (bytes_at s p) t l n (Nested k') q (sym e ∙ y) in
            let d = decoded k (bytes_at s p) t l n (Nested k') q c.1 in
            let x = message-of k' d.0 c.0 d.1 in
            let w = shown k (bytes_at s p) t l n (Nested k') q c.1 x.1 in
            let u = open-message n k' x.0 (its k (bytes_at s p) t l) (tree_of k (bytes_at s p)) (is_open k (bytes_at s p) t l) (sym (sole-find k (bytes_at s p) t l n (Nested k') q a) ∙ c.1 ∙ ap some x.1) in
            let v : sub_at n (tree_of k (bytes_at s p)) ≡ some u.0 = sub_is k (bytes_at s p) t l n (Nested k') q a c.1 ∙ ap (λ c. sub_c (some c)) x.1 ∙ u.1 in
            sub_of k' s _ x.0 u.0 (sub_at n (tree_of k (bytes_at s p))) (same ∙ w.0) u.1 (ap tree_in v) (sym (ap is_some v))

pub opened : (s : List ℕ) (p : Part) (k : Kind) (r : Slots) → Tells k (take (p.start + p.len - p.start) (drop p.start s)) r (level k (take (p.start + p.len - p.start) (drop p.start s)))
    → Tells k (bytes_at s p) r (level k (bytes_at s p))
unfolding bytes_at
opened s p k r h = subst (λ (j : ℕ). Tells k (take j (drop p.start s)) r (level k (take j (drop p.start s)))) (add-sub_cancel_left p.start p.len) h

-- for the callers ----------------------------------------------------------------------------------
-- singular fields that hold bytes or a message
abbrev pub is_span : Form → Bool
is_span Int64 = false
is_span Int32 = false
is_span (Named e) = false
is_span Flag = false
is_span Bytes = true
is_span Opaque = true
is_span Float = false
is_span (Nested k) = true

abbrev pub is_part : Rule → Bool
is_part Unlisted = false
is_part Refused = false
is_part (Once f) = is_span f
is_part (Single f) = is_span f
is_part (Repeated f) = false

module _ (k : Kind) (m : List ℕ) (t : Slots) (y : Level k m t) (n : ℕ) where
  slot-raw : (f : Form) (q : Singular f (rule_of k n)) → ((v : Value) (c : Content) → decode f v ≡ some c → (b : List ℕ) × (c ≡ c_raw b)) → SlotInside m t n
  slot-raw f q g e =
      let c = present k m t y n f q e in
      let d = decoded k m t y n f q c.1 in
      let x = g d.0 c.0 d.1 in
      (shown k m t y n f q c.1 x.1).1

  slot-message : (k' : Kind) (q : Singular (Nested k') (rule_of k n)) → SlotInside m t n
  slot-message k' q e =
      let c = present k m t y n (Nested k') q e in
      let d = decoded k m t y n (Nested k') q c.1 in
      let x = message-of k' d.0 c.0 d.1 in
      (shown k m t y n (Nested k') q c.1 x.1).1

  opaque-of : (v : Value) (c : Content) → decode Opaque v ≡ some c → (b : List ℕ) × (c ≡ c_raw b)
  opaque-of (vint v) c e = nothing-some e
  opaque-of (v64 b) c e = nothing-some e
  opaque-of (vlen b) c e = ([], (cc))
  opaque-of (v32 b) c e = nothing-some e

  pub slot-inside : is_part (rule_of k n) ≡ true → SlotInside m t n
  slot-inside e = go (rule_of k n) refl e
    where
      no : {A : Type 0} → ◌≡◌ {A = Bool} false true → A
      no e = let z : ◌≡◌ {A = ℕ} 0 1 = cc in absurd (omega arith)

      spans : (f : Form) → Singular f (rule_of k n) → is_span f ≡ true → SlotInside m t n
      spans Int64 q e = no e
      spans Int32 q e = no e
      spans (Named x) q e = no e
      spans Flag q e = no e
      spans Bytes q e = slot-raw Bytes q raw_of
      spans Opaque q e = slot-raw Opaque q opaque-of
      spans Float q e = no e
      spans (Nested k') q e = slot-message k' q

      go : (r : Rule) → rule_of k n ≡ r → is_part r ≡ true → SlotInside m t n
      go Unlisted q e = no e
      go Refused q e = no e
      go (Once f) q e = spans f (subst (λ (r : Rule). Singular f r) (sym q) refl) e
      go (Single f) q e = spans f (subst (λ (r : Rule). Singular f r) (sym q) refl) e
      go (Repeated f) q e = no e

-- what part_of and num_of ask
pub part-ready : (k : Kind) (s : List ℕ) (p : Part) (t : Slots) → Level k (bytes_at s p) t → Inside s p → (n : ℕ) → n < 16 → is_part (rule_of k n) ≡ true
    → (n < 16) × Sized t × Inside s p × SlotInside (bytes_at s p) t n
part-ready k s p t y i n l e = (l, level-sized k (bytes_at s p) t y, i, slot-inside k (bytes_at s p) t y n e)

-- what is read at such a part is what the message inside says
pub sub-view : {A : Type 0} {k : Kind} {s : List ℕ} {r : Part} {o : Option Tree} (f : Tree → A) (x : A) → Sub k s r o → x ≡ f (tree_of k (bytes_at s r)) → guard r.has x ≡ map_o f o
sub-view {o = o} f x u e = ap (λ b. guard b x) u.here ∙ ap (guard (is_some o)) (e ∙ ap f u.tree) ∙ go o
  where
    go : (o : Option Tree) → guard (is_some o) (f (tree_in o)) ≡ map_o f o
    go none = refl
    go (some t) = refl

-- the whole message as a part
pub whole-bytes : (s : List ℕ) → bytes_at s (record { has = true; start = 0; len = length s }) ≡ s
unfolding bytes_at
whole-bytes s = take-length s

-- where there is none, the empty part stands for it
pub no_sub : (k : Kind) (s : List ℕ) → Sub k s no_part none
no_sub k s = sub_of k s no_part [] done none (nil-at s) (nil-reads k) refl refl
