-- The walk over a message and the messages inside it.
use Prim.Native.Nat.{ℕ, ◌+◌, ◌*◌, ◌-◌, ◌≤◌, ◌<◌}
use native.Mathlib.Omega.{arith}
use native.Mathlib.Nat.{add-sub_cancel_left}
use mathlib.Core.Path.{◌≡◌, refl, sym, ap, ◌∙◌, subst}
use mathlib.Core.List.{List, [], ◌∷◌, ◌++◌}
use mathlib.Core.Option.{Option, none, some}
use mathlib.Core.Bool.{Bool, true, false, cond}
use lib.ListN.{length, take, drop, length-take}
use Rattle.fields_wire.specs.Wire.{Value, Field, field, read_field, fields_of}
use Rattle.fields_wire.specs.Reader.{got, nothing}
use Rattle.fields_wire_reader.specs.FieldAnswer.{EndsFound}
use Rattle.fields_wire_reader.specs.declared.Found.{Found}
use Rattle.fields_schema.specs.Rules.{rule_of, strict_of}
use Rattle.fields_schema.specs.Tree.{map_o, then_o, is_some, Content, c_int, c_raw, c_fix, c_msg, Item, item, decode, find, add, by_rule, step, items, items_o, level}
use Rattle.fields_schema.specs.Tree.{Tree, sub, open_one, open_all, listed}
use Rattle.fields_schema.proofs.DepthLaws.{listed-opens}
use Rattle.fields_value.specs.Taken.{content_of, InsideTaken}
use Rattle.std.specs.Prelude.{Option as Perhaps, Some, None, Ok}
use Rattle.fields_rule.specs.Judged.{Marks, field_in, Takes, Judges}
use Rattle.fields_decode.specs.Nested.{opens_taken}
use Rattle.fields_schema.specs.declared.Kind.{Kind}
use Rattle.fields_schema.proofs.OptionLaws.{none_of}
use Rattle.fields_schema.specs.declared.Rule.{Rule}
use Rattle.fields_schema.specs.declared.Rule.TheVariants.{Unlisted, Refused, Once, Single, Repeated}
use Rattle.fields_value.specs.declared.Taken.{Taken}
use Rattle.fields_value.specs.declared.Taken.TheVariants.{Number, Slice, Fixed, Inside}
use Rattle.fields_rule.specs.declared.Take.{Take}
use Rattle.fields_decode.proofs.Storing.{no-marks}
use Rattle.fields_decode.proofs.Walking.{Walk, walk_start, walk_end, walk_none, walk-refuse, walk-on, judged-skip, judged-take}

-- items that can be opened ----------------------------------------------------------------
abbrev OpenC : Content → Type 0
OpenC (c_int v) = Unit {0}
OpenC (c_raw b) = Unit {0}
OpenC (c_fix b) = Unit {0}
OpenC (c_msg k b) = is_some (listed k b) ≡ true

abbrev pub AllOpen : List Item → Type 0
AllOpen [] = Unit {0}
AllOpen (item n c ∷ is) = OpenC c × AllOpen is

all_snoc : (is : List Item) (n : ℕ) (c : Content) → AllOpen is → OpenC c → AllOpen (is ++ (item n c ∷ []))
all_snoc [] n c h o = (o, tt)
all_snoc (item m d ∷ is) n c h o = (h.0, all_snoc is n c h.1 o)

map-some : {A B : Type 0} (f : A → B) (o : Option A) → is_some o ≡ true → is_some (map_o f o) ≡ true
map-some f none e = e
map-some f (some a) e = refl

open-one : (n : ℕ) (c : Content) (t : Tree) → OpenC c → is_some (open_one (λ k b. listed k b) n c t) ≡ true
open-one n (c_int v) t h = refl
open-one n (c_raw b) t h = refl
open-one n (c_fix b) t h = refl
open-one n (c_msg k b) t h = map-some _ (listed k b) h

then-true : (o : Option Tree) (g : Tree → Option Tree) → is_some o ≡ true → ((t : Tree) → is_some (g t) ≡ true) → is_some (then_o o g) ≡ true
then-true none g e h = e
then-true (some t) g e h = h t

all-open : (is : List Item) → AllOpen is → is_some (open_all (λ k b. listed k b) is) ≡ true
unfolding open_all
all-open [] h = refl
all-open (item n c ∷ is) h = then-true (open_all (λ k b. listed k b) is) _ (all-open is h.1) (λ t. open-one n c t h.0)

-- items of which one cannot ---------------------------------------------------------------
data Shut : List Item → Type 0 where
  here : {is : List Item} (n : ℕ) (k : Kind) (b : List ℕ) → listed k b ≡ none → Shut (item n (c_msg k b) ∷ is)
  there : {is : List Item} (i : Item) → Shut is → Shut (i ∷ is)

then-none : {A B : Type 0} (o : Option A) → then_o {B = B} o (λ a. none) ≡ none
then-none none = refl
then-none (some a) = refl

shut_open : {is : List Item} → Shut is → open_all (λ k b. listed k b) is ≡ none
unfolding open_all
shut_open (here {is = is} n k b e) =
    ap (λ o. then_o (open_all (λ k b. listed k b) is) (λ t. map_o (λ s. sub n s t) o)) e ∙ then-none (open_all (λ k b. listed k b) is)
shut_open (there {is = is} (item n c) r) = ap (λ o. then_o o (λ t. open_one (λ k b. listed k b) n c t)) (shut_open r)

shut-snoc : (i : Item) {is : List Item} → Shut is → Shut (is ++ (i ∷ []))
shut-snoc i (here n k b e) = here n k b e
shut-snoc i (there j r) = there j (shut-snoc i r)

shut-last : (n : ℕ) (k : Kind) (b : List ℕ) (is : List Item) → listed k b ≡ none → Shut (is ++ (item n (c_msg k b) ∷ []))
shut-last n k b [] e = here n k b e
shut-last n k b (i ∷ is) e = there i (shut-last n k b is e)

abbrev ShutO : Option (List Item) → Type 0
ShutO none = Unit {0}
ShutO (some is) = Shut is

shut-choose : (t : Bool) (o : Option (List Item)) → ShutO o → ShutO (cond t none o)
shut-choose true o h = tt
shut-choose false o h = h

shut-add : (n : ℕ) (o : Option Content) {is : List Item} → Shut is → ShutO (add n is o)
shut-add n none h = tt
shut-add n (some c) h = shut-snoc (item n c) h

shut-rule : (r : Rule) (st : Bool) (n : ℕ) (v : Value) (is : List Item) → Shut is → ShutO (by_rule r st n v is)
shut-rule Unlisted st n v is h = shut-choose st (some is) h
shut-rule Refused st n v is h = tt
shut-rule (Single f) st n v is h = shut-add n (decode f v) h
shut-rule (Once f) st n v is h = shut-choose (is_some (find n is)) (add n is (decode f v)) (shut-add n (decode f v) h)
shut-rule (Repeated f) st n v is h = shut-add n (decode f v) h

shut-step : (k : Kind) (f : Field) (is : List Item) → Shut is → ShutO (step k f is)
shut-step k (field n v) is h = shut-rule (rule_of k n) (strict_of k) n v is h

shut-then : (o : Option (List Item)) (g : List Item → Option (List Item)) → ShutO o → ((is : List Item) → Shut is → ShutO (g is)) → ShutO (then_o o g)
shut-then none g h k = tt
shut-then (some is) g h k = k is h

shut-items : (k : Kind) (fs : List Field) (is : List Item) → Shut is → ShutO (items k fs is)
unfolding items
shut-items k [] is h = h
shut-items k (f ∷ fs) is h = shut-then (step k f is) (λ a. items k fs a) (shut-step k f is h) (λ a q. shut-items k fs a q)

shut-items_o : (k : Kind) (o : Option (List Field)) (is : List Item) → Shut is → ShutO (items_o k o is)
shut-items_o k none is h = tt
shut-items_o k (some fs) is h = shut-items k fs is h

shut-level : (k : Kind) (s : List ℕ) (o : Option (List Item)) → level k s ≡ o → ShutO o → listed k s ≡ none
shut-level k s none e h = listed-opens k s ∙ ap (λ o. then_o o (λ is. open_all (λ k' b. listed k' b) is)) e
shut-level k s (some is) e h = listed-opens k s ∙ ap (λ o. then_o o (λ is. open_all (λ k' b. listed k' b) is)) e ∙ shut_open h

-- the walk ----------------------------------------------------------------------------------
pub record Reading (k : Kind) (s : List ℕ) (seen at : ℕ) : Type 0 where
  pub found : List Item
  pub walk : Walk k s at found
  pub marks : Marks k seen found
  pub good : AllOpen found

pub reading-start : (k : Kind) (s : List ℕ) → Reading k s 0 0
reading-start k s = record { found = []; walk = walk_start k s; marks = no-marks k; good = tt }

pub reading-end : (k : Kind) (s : List ℕ) (seen at : ℕ) → Reading k s seen at → length s ≤ at → true ≡ is_some (listed k s)
reading-end k s seen at g l =
    sym (ap is_some (listed-opens k s ∙ ap (λ o. then_o o (λ is. open_all (λ k' b. listed k' b) is)) (walk_end k s at g.found g.walk l)) ∙ all-open g.found g.good)

refuses : (k : Kind) (s : List ℕ) → level k s ≡ none → false ≡ is_some (listed k s)
refuses k s e = sym (ap is_some (shut-level k s none e tt))

module _ (k : Kind) (s : List ℕ) (seen at : ℕ) (g : Reading k s seen at) where
  pub reading-none : at < length s → nothing ≡ read_field (drop at s) → false ≡ is_some (listed k s)
  reading-none l n = refuses k s (walk_none k s at g.found g.walk l n)

  module _ (f : Found) (m : got (field_in s (Some f)) (drop f.next s) ≡ read_field (drop at s)) (e : EndsFound s at f) where
    pub reading-refused : step k (field_in s (Some f)) g.found ≡ none → false ≡ is_some (listed k s)
    reading-refused q = refuses k s (walk-refuse k s at g.found g.walk f m q)

    pub reading-skip : (r : Perhaps Take) → r ≡ None → Judges s k g.found (Some f) (Ok r) → Reading k s seen f.next
    reading-skip r q h = record { found = g.found; walk = walk-on k s at g.found g.walk f m e g.found (judged-skip s k g.found f r h q); marks = g.marks; good = g.good }

    module _ (t : Take) (r : Perhaps Take) (q : r ≡ Some t) (h : Judges s k g.found (Some f) (Ok r)) where
      pub takes : Takes s k g.found (Some f) t
      takes = judged-take s k g.found f r h t q

      abbrev more : List Item
      more = g.found ++ (item t.number (content_of s t.what) ∷ [])

      on : Walk k s f.next more
      on = walk-on k s at g.found g.walk f m e more takes.adds

      open-content : (w : Taken) → opens_taken s w ≡ true → OpenC (content_of s w)
      open-content (Number v) o = tt
      open-content (Slice a c) o = tt
      open-content (Fixed a) o = tt
      open-content (Inside j a c) o = o

      pub reading-on : opens_taken s t.what ≡ true → Reading k s t.seen f.next
      reading-on o = record {
        found = more;
        walk = on;
        marks = takes.marked (content_of s t.what);
        good = all_snoc g.found t.number (content_of s t.what) g.good (open-content t.what o);
      }

      pub reading-shut : opens_taken s t.what ≡ false → false ≡ is_some (listed k s)
      reading-shut o =
          let h : ShutO (level k s) = subst (λ (o : Option (List Item)). ShutO o) (sym on.rest) (shut-items_o k (fields_of (drop f.next s)) more (go t.what o)) in
          sym (ap is_some (shut-level k s (level k s) refl h))
        where
          go : (w : Taken) → opens_taken s w ≡ false → Shut (g.found ++ (item t.number (content_of s w) ∷ []))
          go (Number v) o = let z : ◌≡◌ {A = ℕ} 0 1 = cc (o) in absurd (omega arith)
          go (Slice a c) o = let z : ◌≡◌ {A = ℕ} 0 1 = cc (o) in absurd (omega arith)
          go (Fixed a) o = let z : ◌≡◌ {A = ℕ} 0 1 = cc (o) in absurd (omega arith)
          go (Inside j a c) o = shut-last t.number j (take c (drop a s)) g.found (none_of _ o)

-- the message inside ------------------------------------------------------------------------
module _ (s : List ℕ) (w : Taken) (j : Kind) (a c : ℕ) (q : w ≡ Inside j a c) (h : InsideTaken s w) where
  pub lies : (a + c ≤ length s) × (c < length s)
  lies = subst (λ (v : Taken). InsideTaken s v) q h

  pub shorter : 2 * length (take (a + c - a) (drop a s)) < 2 * length s - 1
  shorter = let x = lies in omega (arith, length-take (a + c - a) (drop a s), x.1, add-sub_cancel_left a c)

  pub opened : {b : Bool} → b ≡ is_some (listed j (take (a + c - a) (drop a s))) → b ≡ opens_taken s w
  opened e = e ∙ ap (λ x. is_some (listed j (take x (drop a s)))) (add-sub_cancel_left a c) ∙ ap (opens_taken s) (sym q)
