-- One field by its rule.
use Prim.Native.Nat.{ℕ, ◌+◌, ◌^◌, ◌≤◌, ◌<◌}
use native.Mathlib.Omega.{arith}
use mathlib.Core.Path.{◌≡◌, refl, sym, ap, ◌∙◌, subst}
use mathlib.Core.List.{List, [], ◌∷◌, ◌++◌}
use mathlib.Core.Option.{Option, none, some}
use mathlib.Core.Bool.{Bool, true, false, cond, ◌||◌}
use mathlib.Core.Logic.{◌⊎◌, inl, inr, ⊎_elim}
use lib.Dec.{eqb, ltb}
use borrow.Author.Tests.{eqb-true, ne_eqb, ltb-true, ltb-false}
use Rattle.std.specs.Prelude.{Option as Perhaps, Some, Ok, Err, IfSome}
use Rattle.fields_wire.specs.Wire.{field}
use Rattle.fields_wire_reader.specs.FieldAnswer.{EndsFound, number_in, asked_value}
use Rattle.fields_wire_reader.specs.declared.Found.{Found}
use Rattle.fields_schema.specs.Rules.{Table, end, row, look, table_of, rule_of, strict_of}
use Rattle.fields_schema.specs.Tree.{is_some, Content, Item, item, decode, find, add, by_rule, step, later}
use Rattle.base_definitions.specs.Bits.{bit}
use Rattle.fields_rule.specs.Judged.{with_again, with_mark, is_single, read_as, listed_by, Marks, field_in, Refuses, Takes}
use Rattle.fields_schema.proofs.OptionLaws.{none_of}
use Rattle.fields_rule.specs.SoleLaws.{find-last, sole-snoc}
use Rattle.fields_schema.specs.declared.Kind.{Kind}
use Rattle.fields_schema.specs.declared.Kind.TheVariants.{Message, HmacAuth, Command, Header, Body, KeyValue, Range, Setup, GetLog, Security, Acl, Scope, ReplyCommand, ReplyBody, ReplyRange, ReplyGetLog, Utilization, Temperature, Capacity, Limits, Status}
use Rattle.fields_schema.specs.declared.Form.{Form}
use Rattle.fields_schema.specs.declared.Rule.{Rule}
use Rattle.fields_schema.specs.declared.Rule.TheVariants.{Unlisted, Refused, Once, Single, Repeated}
use Rattle.fields_value.specs.Taken.{content_of, InsideTaken}
use Rattle.fields_value.specs.declared.Taken.{Taken}
use Rattle.fields_rule.specs.declared.Listed.{Listed}
use Rattle.fields_rule.specs.declared.Refusal.TheVariants.{Never}
use Rattle.base_definitions.proofs.BitsLaws.{set-bit, bits_below}

or-cond : (t b : Bool) → (t || b) ≡ cond t true b
or-cond true b = refl
or-cond false b = refl

-- a mark that is set is there, and the others stand
mark-bit : (p q m : ℕ) → bit m p ≡ false → bit (m + 2 ^ p) q ≡ cond (eqb q p) true (bit m q)
mark-bit p q m e = set-bit p q m e ∙ or-cond (eqb q p) (bit m q)

-- every listed number is below 16 -----------------------------------------------------
all_below : Table → Bool
all_below end = true
all_below (row m r t) = cond (ltb m 16) (all_below t) false

-- no field has the number 0
none-zero : (k : Kind) → rule_of k 0 ≡ Unlisted
none-zero Message = refl
none-zero HmacAuth = refl
none-zero Command = refl
none-zero Header = refl
none-zero Body = refl
none-zero KeyValue = refl
none-zero Range = refl
none-zero Setup = refl
none-zero GetLog = refl
none-zero Security = refl
none-zero Acl = refl
none-zero Scope = refl
none-zero ReplyCommand = refl
none-zero ReplyBody = refl
none-zero ReplyRange = refl
none-zero ReplyGetLog = refl
none-zero Utilization = refl
none-zero Temperature = refl
none-zero Capacity = refl
none-zero Limits = refl
none-zero Status = refl

all-below : (k : Kind) → all_below (table_of k) ≡ true
unfolding all_below
all-below Message = refl
all-below HmacAuth = refl
all-below Command = refl
all-below Header = refl
all-below Body = refl
all-below KeyValue = refl
all-below Range = refl
all-below Setup = refl
all-below GetLog = refl
all-below Security = refl
all-below Acl = refl
all-below Scope = refl
all-below ReplyCommand = refl
all-below ReplyBody = refl
all-below ReplyRange = refl
all-below ReplyGetLog = refl
all-below Utilization = refl
all-below Temperature = refl
all-below Capacity = refl
all-below Limits = refl
all-below Status = refl

and-true : (a b : Bool) → cond a b false ≡ true → (a ≡ true) × (b ≡ true)
and-true true b e = (refl, e)
and-true false b e = let z : ◌≡◌ {A = ℕ} 0 1 = cc in absurd (omega arith)

look-above : (n : ℕ) (t : Table) → all_below t ≡ true → 16 ≤ n → look n t ≡ Unlisted
unfolding all_below
look-above n end e h = refl
look-above n (row m r t) e h =
    let i = and-true (ltb m 16) (all_below t) e in
    let l : m < 16 = ltb-true m 16 i.0 in
    rw (ne_eqb n m (λ q. omega arith)) (look-above n t i.1 h)

below-16 : (k : Kind) (n : ℕ) → (rule_of k n ≡ Unlisted → ⊥) → n < 16
below-16 k n f = go (ltb n 16) refl
  where
    go : (t : Bool) → ltb n 16 ≡ t → n < 16
    go true e = ltb-true n 16 e
    go false e = absurd (f (look-above n (table_of k) (all-below k) (ltb-false n 16 e)))

-- of a singular number that the table lists
pub marked-below : (k : Kind) (n : ℕ) (r : Rule) → r ≡ rule_of k n → is_single r ≡ true → n < 16
marked-below k n r p w = below-16 k n (λ e. let q : is_single r ≡ false = ap is_single (p ∙ e) in let z : ◌≡◌ {A = ℕ} 0 1 = cc (q, w) in omega arith)

single-below : (k : Kind) (n : ℕ) {r : Rule} {f : Form} → r ≡ rule_of k n → r ≡ Single f → n < 16
single-below k n p q = below-16 k n (λ e. let z : ◌≡◌ {A = ℕ} 0 1 = cc (p, q, e) in omega arith)

once-below : (k : Kind) (n : ℕ) {r : Rule} {f : Form} → r ≡ rule_of k n → r ≡ Once f → n < 16
once-below k n p q = below-16 k n (λ e. let z : ◌≡◌ {A = ℕ} 0 1 = cc (p, q, e) in omega arith)

repeated-below : (k : Kind) (n : ℕ) {r : Rule} {f : Form} → r ≡ rule_of k n → r ≡ Repeated f → n < 16
repeated-below k n p q = below-16 k n (λ e. let z : ◌≡◌ {A = ℕ} 0 1 = cc (p, q, e) in omega arith)

-- one item more -------------------------------------------------------------------------
has_last : (m n : ℕ) (c : Content) (is : List Item) → is_some (find m (is ++ (item n c ∷ []))) ≡ cond (eqb m n) true (is_some (find m is))
has_last m n c is = ap is_some (find-last m n c is) ∙ go (eqb m n) (find m is)
  where
    go : (t : Bool) (o : Option Content) → is_some (later o (cond t (some c) none)) ≡ cond t true (is_some o)
    go true none = refl
    go true (some d) = refl
    go false none = refl
    go false (some d) = refl

-- number 0 is not singular
not-zero : (k : Kind) (m : ℕ) → is_single (rule_of k m) ≡ true → m ≡ 0 → ⊥
not-zero k m w e = let q : is_single (rule_of k m) ≡ false = ap (λ j. is_single (rule_of k j)) e ∙ ap is_single (none-zero k) in let z : ◌≡◌ {A = ℕ} 0 1 = cc (q, w) in omega arith

marks-single : (k : Kind) (seen n : ℕ) (is : List Item) → Marks k seen is → n < 16 → is_single (rule_of k n) ≡ true → bit seen n ≡ false → (c : Content) → Marks k (seen + 2 ^ n) (is ++ (item n c ∷ []))
marks-single k seen n is h l y z c =
    record {
      small = bits_below 16 n seen l h.small z;
      marks = λ m w. mark-bit n m seen z ∙ ap (cond (eqb m n) true) (h.marks m w) ∙ sym (has_last m n c is);
      alone = λ e m w. sole-snoc m n c is (λ q. ap (λ j. find j is) (eqb-true m n q) ∙ none_of (find n is) (sym (h.marks n y) ∙ z)) (h.alone (before e) m w);
    }
  where
    before : bit (seen + 2 ^ n) 0 ≡ false → bit seen 0 ≡ false
    before e = sym (mark-bit n 0 seen z ∙ ap (λ t. cond t true (bit seen 0)) (ne_eqb 0 n (λ q. not-zero k n y (sym q)))) ∙ e

-- a mark that is there stays, and bit 0 is set
marks-kept : (k : Kind) (seen n : ℕ) (is : List Item) → Marks k seen is → is_single (rule_of k n) ≡ true → bit seen n ≡ true → (c : Content)
    → (m : ℕ) → is_single (rule_of k m) ≡ true → bit seen m ≡ is_some (find m (is ++ (item n c ∷ [])))
marks-kept k seen n is h y z c m w = h.marks m w ∙ other (eqb m n) refl ∙ sym (has_last m n c is)
  where
    other : (t : Bool) → eqb m n ≡ t → is_some (find m is) ≡ cond (eqb m n) true (is_some (find m is))
    other true e = sym (h.marks m w) ∙ ap (bit seen) (eqb-true m n e) ∙ z ∙ sym (ap (λ t. cond t true (is_some (find m is))) e)
    other false e = rw e

absurd-true : {A : Type 0} {b : Bool} → b ≡ true → b ≡ false → A
absurd-true p q = let z : ◌≡◌ {A = ℕ} 0 1 = cc (p, q) in absurd (omega arith)

marks-again : (k : Kind) (seen n : ℕ) (is : List Item) → Marks k seen is → is_single (rule_of k n) ≡ true → bit seen n ≡ true → (c : Content) → Marks k (with_again seen) (is ++ (item n c ∷ []))
marks-again k seen n is h y z c = go (bit seen 0) refl
  where
    go : (b : Bool) → bit seen 0 ≡ b → Marks k (cond b seen (seen + 2 ^ 0)) (is ++ (item n c ∷ []))
    go true e = record { small = h.small; marks = marks-kept k seen n is h y z c; alone = λ q m w. absurd-true e q }
    go false e = record {
      small = bits_below 16 0 seen (omega arith) h.small e;
      marks = λ m w. mark-bit 0 m seen e ∙ ap (λ t. cond t true (bit seen m)) (ne_eqb m 0 (not-zero k m w)) ∙ marks-kept k seen n is h y z c m w;
      alone = λ q m w. absurd-true (mark-bit 0 0 seen e) q;
    }

marks-with : (k : Kind) (seen n : ℕ) (is : List Item) → Marks k seen is → n < 16 → is_single (rule_of k n) ≡ true → (c : Content) → Marks k (with_mark seen n) (is ++ (item n c ∷ []))
marks-with k seen n is h l y c = go (bit seen n) refl
  where
    go : (b : Bool) → bit seen n ≡ b → Marks k (cond b (with_again seen) (seen + 2 ^ n)) (is ++ (item n c ∷ []))
    go true e = marks-again k seen n is h y e c
    go false e = marks-single k seen n is h l y e c

marks-repeated : (k : Kind) (seen n : ℕ) (is : List Item) → Marks k seen is → is_single (rule_of k n) ≡ false → (c : Content) → Marks k seen (is ++ (item n c ∷ []))
marks-repeated k seen n is h z c = record {
  small = h.small;
  marks = λ m w. h.marks m w ∙ other m w (eqb m n) refl ∙ sym (has_last m n c is);
  alone = λ e m w. sole-snoc m n c is (λ q. apart m w q) (h.alone e m w);
}
  where
    apart : {A : Type 0} (m : ℕ) → is_single (rule_of k m) ≡ true → eqb m n ≡ true → A
    apart m w e = absurd-true w (ap (λ j. is_single (rule_of k j)) (eqb-true m n e) ∙ z)

    other : (m : ℕ) → is_single (rule_of k m) ≡ true → (t : Bool) → eqb m n ≡ t → is_some (find m is) ≡ cond (eqb m n) true (is_some (find m is))
    other m w true e = apart m w e
    other m w false e = rw e

-- what is listed, back to the rule --------------------------------------------------------
never : {A : Type 0} → ◌≡◌ {A = ℕ} 0 1 → A
never z = absurd (omega arith)

abbrev AsOnce : Rule → ℕ → ℕ → Listed → Type 0
AsOnce ρ seen n l = (ρ ≡ Once l.form) × (bit seen n ≡ false) × (l.seen ≡ with_mark seen n)

abbrev AsSingle : Rule → ℕ → ℕ → Listed → Type 0
AsSingle ρ seen n l = (ρ ≡ Single l.form) × (l.seen ≡ with_mark seen n)

abbrev AsRepeated : Rule → ℕ → Listed → Type 0
AsRepeated ρ seen l = (ρ ≡ Repeated l.form) × (l.seen ≡ seen)

listed-as : (ρ : Rule) (seen n : ℕ) (l : Listed) → listed_by ρ seen n ≡ Ok (Some l) → AsOnce ρ seen n l ⊎ (AsSingle ρ seen n l ⊎ AsRepeated ρ seen l)
listed-as Unlisted seen n l e = never (cc)
listed-as Refused seen n l e = never (cc)
listed-as (Once g) seen n l e = go (bit seen n) refl e
  where
    go : (b : Bool) → bit seen n ≡ b → cond b (Err Never) (read_as g (with_mark seen n)) ≡ Ok (Some l)
        → AsOnce (Once g) seen n l ⊎ (AsSingle (Once g) seen n l ⊎ AsRepeated (Once g) seen l)
    go true q e = never (cc)
    go false q e =
        let x : record { form = g; seen = with_mark seen n } ≡ l = cc in
        inl (ap (λ (l : Listed). Once l.form) x, q, ap (λ (l : Listed). l.seen) (sym x))
listed-as (Single g) seen n l e =
    let x : record { form = g; seen = with_mark seen n } ≡ l = cc in
    inr (inl (ap (λ (l : Listed). Single l.form) x, ap (λ (l : Listed). l.seen) (sym x)))
listed-as (Repeated g) seen n l e =
    let x : record { form = g; seen = seen } ≡ l = cc in
    inr (inr (ap (λ (l : Listed). Repeated l.form) x, ap (λ (l : Listed). l.seen) (sym x)))

-- a field by its rule -------------------------------------------------------------------
module _ (k : Kind) (f : Perhaps Found) (n : ℕ) (q : n ≡ number_in f) (ρ : Rule) (p : ρ ≡ rule_of k n) where
  as-rule : (s : List ℕ) (is : List Item) (σ : Rule) {o : Option (List Item)} → ρ ≡ σ → by_rule σ (strict_of k) n (asked_value s f) is ≡ o → step k (field_in s f) is ≡ o
  as-rule s is σ {o} e h =
      subst (λ (m : ℕ). step k (field m (asked_value s f)) is ≡ o) q (ap (λ σ. by_rule σ (strict_of k) n (asked_value s f) is) (sym p ∙ e) ∙ h)

  module _ (g : Form) (e : ρ ≡ Once g) where
    single : is_single (rule_of k n) ≡ true
    single = ap is_single (sym p ∙ e)

  -- by its form: what is added, and the marks then
  pub record Adds (seen : ℕ) (l : Listed) (s : List ℕ) (is : List Item) : Type 0 where
    pub below : n < 16
    pub adds : step k (field_in s f) is ≡ add n is (decode l.form (asked_value s f))
    pub marked : (c : Content) → Marks k l.seen (is ++ (item n c ∷ []))

  adds-once : (seen : ℕ) (l : Listed) → AsOnce ρ seen n l → (s : List ℕ) (is : List Item) → Marks k seen is → Adds seen l s is
  adds-once seen l z s is m =
      let o : find n is ≡ none = none_of (find n is) (sym (m.marks n (single l.form z.0)) ∙ z.1) in
      record {
        below = once-below k n p z.0;
        adds = as-rule s is (Once l.form) z.0 (ap (λ t. cond (is_some t) none (add n is (decode l.form (asked_value s f)))) o);
        marked = λ c. subst (λ (x : ℕ). Marks k x (is ++ (item n c ∷ []))) (sym z.2) (marks-with k seen n is m (once-below k n p z.0) (single l.form z.0) c);
      }

  adds-single : (seen : ℕ) (l : Listed) → AsSingle ρ seen n l → (s : List ℕ) (is : List Item) → Marks k seen is → Adds seen l s is
  adds-single seen l z s is m = record {
    below = single-below k n p z.0;
    adds = as-rule s is (Single l.form) z.0 refl;
    marked = λ c. subst (λ (x : ℕ). Marks k x (is ++ (item n c ∷ []))) (sym z.1) (marks-with k seen n is m (single-below k n p z.0) (ap is_single (sym p ∙ z.0)) c);
  }

  adds-repeated : (seen : ℕ) (l : Listed) → AsRepeated ρ seen l → (s : List ℕ) (is : List Item) → Marks k seen is → Adds seen l s is
  adds-repeated seen l z s is m = record {
    below = repeated-below k n p z.0;
    adds = as-rule s is (Repeated l.form) z.0 refl;
    marked = λ c. subst (λ (x : ℕ). Marks k x (is ++ (item n c ∷ []))) (sym z.1) (marks-repeated k seen n is m (ap is_single (sym p ∙ z.0)) c);
  }

  -- by what is listed
  module _ (seen : ℕ) where
    adds-as : (l : Listed) → Ok (Some l) ≡ listed_by ρ seen n → (s : List ℕ) (is : List Item) → Marks k seen is → Adds seen l s is
    adds-as l t s is m =
        ⊎_elim (λ z. adds-once seen l z s is m) (λ y. ⊎_elim (λ z. adds-single seen l z s is m) (λ z. adds-repeated seen l z s is m) y) (listed-as ρ seen n l (sym t))

    module _ (l : Listed) (t : Ok (Some l) ≡ listed_by ρ seen n) where
      pub judges-wrong : ((s : List ℕ) → none ≡ decode l.form (asked_value s f)) → (s : List ℕ) (is : List Item) → Marks k seen is → Refuses s k is f n l.seen
      judges-wrong d s is m = let a = adds-as l t s is m in record { number = q; below = a.below; adds = a.adds ∙ ap (add n is) (sym (d s)); marked = a.marked }

      pub judges-as : (w : Taken) → ((s : List ℕ) → some (content_of s w) ≡ decode l.form (asked_value s f)) → ((s : List ℕ) (at : ℕ) → IfSome f (EndsFound s at) → InsideTaken s w)
          → (s : List ℕ) (at : ℕ) (is : List Item) → IfSome f (EndsFound s at) → Marks k seen is → Takes s k is f (record { number = n; seen = l.seen; what = w })
      judges-as w d i s at is j m =
          let a = adds-as l t s is m in
          record { below = a.below; adds = a.adds ∙ ap (add n is) (sym (d s)); inside = i s at j; marked = a.marked }
