-- The walk over the fields of a message: what has been found, and what is left.
use Prim.Native.Nat.{ℕ, ◌≤◌, ◌<◌}
use native.Mathlib.Omega.{arith}
use mathlib.Core.Path.{◌≡◌, refl, sym, ap, ◌∙◌, subst}
use mathlib.Core.List.{List, []}
use mathlib.Core.Option.{Option, none, some}
use lib.ListN.{length, drop, drop_of_length-le}
use Rattle.fields_wire.specs.Wire.{Field, read_field, fields_of, cons_o}
use Rattle.fields_wire.specs.WireLaws.{fields-front}
use Rattle.fields_wire.specs.Reader.{got, nothing}
use Rattle.fields_wire_reader.specs.FieldAnswer.{EndsFound, asked_value}
use Rattle.fields_wire_reader.specs.declared.Found.{Found}
use Rattle.fields_wire_reader.proofs.FieldPlaces.{fields-fail-at, fields-end}
use Rattle.fields_schema.specs.Tree.{Item, step, items, items_o, level, then_o}
use Rattle.std.specs.Prelude.{Option as Perhaps, Some, None, Ok, Err}
use Rattle.fields_rule.specs.Judged.{field_in, Takes, Judges}
use Rattle.fields_rule.specs.declared.Refusal.{Refusal}
use Rattle.fields_rule.specs.declared.Refusal.TheVariants.{Never, Wrong}
use Rattle.fields_rule.specs.declared.Take.{Take}
use Rattle.fields_schema.specs.declared.Kind.{Kind}

items-front : (k : Kind) (f : Field) (o : Option (List Field)) (acc : List Item) → items_o k (cons_o f o) acc ≡ then_o (step k f acc) (λ a. items_o k o a)
unfolding items
items-front k f none acc = go (step k f acc)
  where
    go : (o : Option (List Item)) → none ≡ then_o o (λ a. items_o k none a)
    go none = refl
    go (some a) = refl
items-front k f (some fs) acc = refl

-- the items found up to `at`
pub record Walk (k : Kind) (s : List ℕ) (at : ℕ) (is : List Item) : Type 0 where
  pub inside : at ≤ length s
  pub rest : level k s ≡ items_o k (fields_of (drop at s)) is

pub walk_start : (k : Kind) (s : List ℕ) → Walk k s 0 []
unfolding level
walk_start k s = record { inside = omega arith; rest = refl }

pub walk_end : (k : Kind) (s : List ℕ) (at : ℕ) (is : List Item) → Walk k s at is → length s ≤ at → level k s ≡ some is
unfolding items
walk_end k s at is w l = w.rest ∙ ap (λ o. items_o k o is) (ap fields_of (drop_of_length-le s l) ∙ fields-end)

pub walk_none : (k : Kind) (s : List ℕ) (at : ℕ) (is : List Item) → Walk k s at is → at < length s → nothing ≡ read_field (drop at s) → level k s ≡ none
walk_none k s at is w l n = w.rest ∙ ap (λ o. items_o k o is) (fields-fail-at s at l (sym n))

module _ (k : Kind) (s : List ℕ) (at : ℕ) (is : List Item) (w : Walk k s at is) (f : Found) (m : got (field_in s (Some f)) (drop f.next s) ≡ read_field (drop at s)) where
  walk_step : level k s ≡ then_o (step k (field_in s (Some f)) is) (λ a. items_o k (fields_of (drop f.next s)) a)
  walk_step = w.rest ∙ ap (λ o. items_o k o is) (fields-front (drop at s) (sym m)) ∙ items-front k (field_in s (Some f)) (fields_of (drop f.next s)) is

  pub walk-refuse : step k (field_in s (Some f)) is ≡ none → level k s ≡ none
  walk-refuse h = walk_step ∙ ap (λ o. then_o o (λ a. items_o k (fields_of (drop f.next s)) a)) h

  pub walk-on : EndsFound s at f → (js : List Item) → step k (field_in s (Some f)) is ≡ some js → Walk k s f.next js
  walk-on e js h = record {
    inside = e.inside;
    rest = walk_step ∙ ap (λ o. then_o o (λ a. items_o k (fields_of (drop f.next s)) a)) h;
  }

-- what was judged of a field: that it is skipped, or taken
module _ (s : List ℕ) (k : Kind) (is : List Item) (f : Found) (r : Perhaps Take) (h : Judges s k is (Some f) (Ok r)) where
  pub judged-skip : r ≡ None → step k (field_in s (Some f)) is ≡ some is
  judged-skip e = subst (λ (r : Perhaps Take). Judges s k is (Some f) (Ok r)) e h

  pub judged-take : (t : Take) → r ≡ Some t → Takes s k is (Some f) t
  judged-take t e = subst (λ (r : Perhaps Take). Judges s k is (Some f) (Ok r)) e h

-- a refusal of either kind
pub judged-refuse : (s : List ℕ) (k : Kind) (is : List Item) (f : Found) (e : Refusal) → Judges s k is (Some f) (Err e) → step k (field_in s (Some f)) is ≡ none
judged-refuse s k is f Never h = h (asked_value s (Some f))
judged-refuse s k is f (Wrong n seen) h = h.adds
