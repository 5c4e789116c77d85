-- The slots while a level is collected.
use Prim.Native.Nat.{ℕ, ◌≤◌, ◌<◌}
use native.Mathlib.Omega.{arith}
use mathlib.Core.Path.{◌≡◌, refl, sym, ap, ◌∙◌, subst}
use mathlib.Core.List.{List, [], ◌∷◌, ◌++◌}
use mathlib.Core.Option.{Option, none, some}
use mathlib.Core.Bool.{Bool, true, false, cond}
use lib.ListN.{length, drop, get_or, set, length-set, replicate}
use lib.Seq.{get_or-set_same, get_or-set_other}
use lib.Dec.{eqb}
use borrow.Author.Tests.{eqb-true, eqb-false}
use Rattle.fields_wire.specs.Wire.{read_field}
use Rattle.fields_wire.specs.Reader.{got, nothing}
use Rattle.fields_wire_reader.specs.FieldAnswer.{EndsFound}
use Rattle.fields_wire_reader.specs.declared.Found.{Found}
use Rattle.fields_schema.specs.Rules.{rule_of}
use Rattle.fields_schema.specs.Tree.{guard, later, Content, Item, item, step, level}
use Rattle.fields_value.specs.Taken.{content_of, InsideTaken}
use Rattle.std.specs.Prelude.{Option as Perhaps, Some, None, Ok}
use Rattle.fields_rule.specs.Judged.{is_single, Marks, field_in, Takes, Judges}
use Rattle.fields_decode.specs.Slots.{find_last, Sized, slot_of, Shows, Holds, Tells}
use Rattle.fields_schema.specs.declared.Kind.{Kind}
use Rattle.fields_schema.proofs.OptionLaws.{nothing-some}
use Rattle.fields_value.specs.declared.Taken.{Taken}
use Rattle.fields_value.specs.declared.Taken.TheVariants.{Number, Slice, Fixed, Inside}
use Rattle.fields_rule.specs.declared.Take.{Take}
use Rattle.fields_decode.specs.declared.slots.Slot.{Slot}
use Rattle.fields_decode.specs.declared.slots.Slots.{Slots}
use Rattle.base_definitions.proofs.BitsLaws.{no-bit}
use Rattle.fields_decode.proofs.Walking.{Walk, walk_start, walk_end, walk_none, walk-refuse, walk-on, judged-skip, judged-take}

pub no-marks : (k : Kind) → Marks k 0 []
no-marks k = record { small = omega arith; marks = λ n w. no-bit n; alone = λ e n w. tt }

pub empty_holds : (k : Kind) (s : List ℕ) → Holds k s (record { ok = true; has = 0; value = replicate 16 0; len = replicate 16 0 }) []
empty_holds k s = record { ok = refl; sized = record { value = refl; len = refl }; marks = no-marks k; shows = λ n c w e. nothing-some e }

-- one item more -------------------------------------------------------------------------
last_snoc : (m n : ℕ) (c : Content) (is : List Item) → find_last m (is ++ (item n c ∷ [])) ≡ cond (eqb m n) (some c) (find_last m is)
last_snoc m n c [] = go (eqb m n)
  where
    go : (b : Bool) → later none (guard b c) ≡ cond b (some c) none
    go true = refl
    go false = refl
last_snoc m n c (item j d ∷ is) = ap (λ o. later o (guard (eqb m j) d)) (last_snoc m n c is) ∙ go (eqb m n)
  where
    go : (b : Bool) → later (cond b (some c) (find_last m is)) (guard (eqb m j) d) ≡ cond b (some c) (later (find_last m is) (guard (eqb m j) d))
    go true = refl
    go false = refl

module _ (k : Kind) (s : List ℕ) (t : Slots) (is : List Item) (f : Found) (x : Take) (h : Holds k s t is) (y : Takes s k is (Some f) x) (c : Content) where
  abbrev n : ℕ
  n = x.number

  holds_more : (u : Slots) → u.ok ≡ true → u.has ≡ x.seen → Sized u → ((m : ℕ) → (m ≡ n → ⊥) → get_or u.value m 0 ≡ get_or t.value m 0)
      → ((m : ℕ) → (m ≡ n → ⊥) → get_or u.len m 0 ≡ get_or t.len m 0) → Shows s (get_or u.value n 0) (get_or u.len n 0) c → Holds k s u (is ++ (item n c ∷ []))
  holds_more u o p z a b v =
      record { ok = o; sized = z; marks = subst (λ (j : ℕ). Marks k j (is ++ (item n c ∷ []))) (sym p) (y.marked c); shows = λ m d g e. at m d g e (eqb m n) refl }
    where
      at : (m : ℕ) (d : Content) → is_single (rule_of k m) ≡ true → find_last m (is ++ (item n c ∷ [])) ≡ some d → (b : Bool) → eqb m n ≡ b
          → Shows s (get_or u.value m 0) (get_or u.len m 0) d
      at m d g e true q =
          let r : m ≡ n = eqb-true m n q in
          let i : find_last m (is ++ (item n c ∷ [])) ≡ some c = last_snoc m n c is ∙ ap (λ b. cond b (some c) (find_last m is)) q in
          let j : c ≡ d = cc (i, e) in
          subst (λ (d : Content). Shows s (get_or u.value m 0) (get_or u.len m 0) d) j (subst (λ (j : ℕ). Shows s (get_or u.value j 0) (get_or u.len j 0) c) (sym r) v)
      at m d g e false q =
          let r = eqb-false m n q in
          let i : find_last m is ≡ some d = sym (last_snoc m n c is ∙ ap (λ b. cond b (some c) (find_last m is)) q) ∙ e in
          rw (a m r, b m r) (h.shows m d g i)

abbrev pub slots_of : ℕ → List ℕ → List ℕ → Slots
slots_of seen value len = record { ok = true; has = seen; value = value; len = len }

stored : (k : Kind) (s : List ℕ) (seen : ℕ) (value len : List ℕ) (is : List Item) (f : Found) (t : Take) (a b : ℕ) (c : Content) → Holds k s (slots_of seen value len) is
    → Takes s k is (Some f) t → Shows s a b c → Holds k s (slots_of t.seen (set value t.number a) (set len t.number b)) (is ++ (item t.number c ∷ []))
stored k s seen value len is f t a b c h y o =
    let z = h.sized in
    let l = y.below in
    holds_more k s (slots_of seen value len) is f t h y c (slots_of t.seen (set value t.number a) (set len t.number b)) refl refl
    (record { value = length-set value t.number a ∙ z.value; len = length-set len t.number b ∙ z.len })
    (λ m d. get_or-set_other value t.number m a 0 d) (λ m d. get_or-set_other len t.number m b 0 d)
    (rw (get_or-set_same value t.number a 0 (omega (arith, z.value)), get_or-set_same len t.number b 0 (omega (arith, z.len))) o)

-- what is stored of a field shows what it holds
slot-shows : (s : List ℕ) (w : Taken) → InsideTaken s w → Shows s (slot_of w).value (slot_of w).len (content_of s w)
slot-shows s (Number v) i = refl
slot-shows s (Slice a b) i = (refl, i)
slot-shows s (Fixed a) i = (refl, i)
slot-shows s (Inside k a b) i = (refl, i.0)

-- the walk ------------------------------------------------------------------------------
pub record Going (k : Kind) (s : List ℕ) (seen : ℕ) (value len : List ℕ) (at : ℕ) : Type 0 where
  pub found : List Item
  pub walk : Walk k s at found
  pub holds : Holds k s (slots_of seen value len) found

pub going_start : (k : Kind) (s : List ℕ) → Going k s 0 (replicate 16 0) (replicate 16 0) 0
going_start k s = record { found = []; walk = walk_start k s; holds = empty_holds k s }

tells_as : (k : Kind) (s : List ℕ) (t : Slots) {o p : Option (List Item)} → o ≡ p → Tells k s t p → Tells k s t o
tells_as k s t e h = subst (λ (o : Option (List Item)). Tells k s t o) (sym e) h

pub going_end : (k : Kind) (s : List ℕ) (seen : ℕ) (value len : List ℕ) (at : ℕ) → Going k s seen value len at → length s ≤ at → Tells k s (slots_of seen value len) (level k s)
going_end k s seen value len at g l = tells_as k s (slots_of seen value len) (walk_end k s at g.found g.walk l) g.holds

module _ (k : Kind) (s : List ℕ) (seen : ℕ) (value len : List ℕ) (at : ℕ) (g : Going k s seen value len at) where
  pub going-none : at < length s → nothing ≡ read_field (drop at s) → (r : Slots) → r.ok ≡ false → Tells k s r (level k s)
  going-none l n r z = tells_as k s r (walk_none k s at g.found g.walk l n) z

  module _ (f : Found) (m : got (field_in s (Some f)) (drop f.next s) ≡ read_field (drop at s)) (e : EndsFound s at f) where
    pub going-refused : step k (field_in s (Some f)) g.found ≡ none → (r : Slots) → r.ok ≡ false → Tells k s r (level k s)
    going-refused q r z = tells_as k s r (walk-refuse k s at g.found g.walk f m q) z

    pub going-skip : (r : Perhaps Take) → r ≡ None → Judges s k g.found (Some f) (Ok r) → Going k s seen value len f.next
    going-skip r q h = record { found = g.found; walk = walk-on k s at g.found g.walk f m e g.found (judged-skip s k g.found f r h q); holds = g.holds }

    module _ (t : Take) (r : Perhaps Take) (q : r ≡ Some t) (h : Judges s k g.found (Some f) (Ok r)) where
      y : Takes s k g.found (Some f) t
      y = judged-take s k g.found f r h t q

      pub takes-below : t.number < 16
      takes-below = y.below

      pub going_on : (o : Slot) → o ≡ slot_of t.what → Going k s t.seen (set value t.number o.value) (set len t.number o.len) f.next
      going_on o z =
          subst (λ (o : Slot). Going k s t.seen (set value t.number o.value) (set len t.number o.len) f.next) (sym z)
          (record {
            found = g.found ++ (item t.number (content_of s t.what) ∷ []);
            walk = walk-on k s at g.found g.walk f m e (g.found ++ (item t.number (content_of s t.what) ∷ [])) y.adds;
            holds = stored k s seen value len g.found f t (slot_of t.what).value (slot_of t.what).len (content_of s t.what) g.holds y (slot-shows s t.what y.inside);
          })
