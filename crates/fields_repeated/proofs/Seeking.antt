-- The walk to the next field of a number.
use Prim.Native.Nat.{ℕ, ◌≤◌, ◌<◌}
use native.Mathlib.Omega.{arith}
use mathlib.Core.Path.{◌≡◌, refl, sym, ap, ◌∙◌, subst}
use mathlib.Core.List.{List, [], ◌∷◌}
use mathlib.Core.Option.{Option, none, some}
use mathlib.Core.Bool.{Bool, true, false}
use lib.ListN.{length, drop, drop_of_length-le}
use lib.Dec.{eqb}
use borrow.Author.Tests.{eq-eqb, ne_eqb}
use Rattle.fields_wire.specs.Wire.{Field, field, read_field, fields_of, cons_o}
use Rattle.fields_wire.specs.WireLaws.{fields-front}
use Rattle.std.specs.Prelude.{Option as Perhaps, None}
use Rattle.fields_wire.specs.Reader.{got, nothing}
use Rattle.fields_wire_reader.specs.FieldAnswer.{EndsFound, value_in}
use Rattle.fields_wire_reader.specs.declared.Found.{Found}
use Rattle.fields_wire_reader.proofs.FieldPlaces.{fields-fail-at, fields-end, found-later}
use Rattle.fields_schema.specs.Tree.{is_some, cons_if}
use Rattle.fields_repeated.specs.Values.{values_of, or_nil, values_in, WellFramed, NextIs, NextFound}

pub record Seeking (s : List ℕ) (n at : ℕ) : Type 0 where
  pub inside : at ≤ length s
  pub framed : WellFramed s → WellFramed (drop at s)
  pub same : WellFramed s → values_in n s ≡ values_in n (drop at s)

pub seek-start : (s : List ℕ) (n : ℕ) → Seeking s n 0
seek-start s n = record { inside = omega arith; framed = λ w. w; same = λ w. refl }

pub no-values : (n : ℕ) → values_in n [] ≡ []
unfolding values_in
no-values n = ap (λ o. values_of n (or_nil o)) fields-end

pub seek-end : (s : List ℕ) (n at : ℕ) → Seeking s n at → length s ≤ at → WellFramed s → values_in n s ≡ []
seek-end s n at g l w = g.same w ∙ ap (values_in n) (drop_of_length-le s l) ∙ no-values n

cons-some : (f : Field) (o : Option (List Field)) → is_some (cons_o f o) ≡ true → (is_some o ≡ true) × (or_nil (cons_o f o) ≡ f ∷ or_nil o)
cons-some f none e = let z : ◌≡◌ {A = ℕ} 0 1 = cc in absurd (omega arith)
cons-some f (some fs) e = (refl, refl)

never : {A : Type 0} → ◌≡◌ {A = Bool} false true → A
never e = let z : ◌≡◌ {A = ℕ} 0 1 = cc in absurd (omega arith)

module _ (s : List ℕ) (n at : ℕ) (g : Seeking s n at) where
  -- a `?` that leaves
  pub seek-none : at < length s → nothing ≡ read_field (drop at s) → (r : Perhaps Found) → r ≡ None → NextFound s n r
  seek-none l m r e =
      subst (λ (r : Perhaps Found). NextFound s n r) (sym e)
      (λ w. never (sym (ap is_some (fields-fail-at s at l (sym m))) ∙ g.framed w))

  module _ (f : Found) (m : got (field f.number (value_in s f)) (drop f.next s) ≡ read_field (drop at s)) (e : EndsFound s at f) where
    front : fields_of (drop at s) ≡ cons_o (field f.number (value_in s f)) (fields_of (drop f.next s))
    front = fields-front (drop at s) (sym m)

    split : WellFramed s → (WellFramed (drop f.next s)) × (values_in n s ≡ cons_if (eqb n f.number) (value_in s f) (values_in n (drop f.next s)))
    unfolding values_in
    split r =
        let i = cons-some (field f.number (value_in s f)) (fields_of (drop f.next s)) (ap is_some (sym front) ∙ g.framed r) in
        (i.0, g.same r ∙ ap (λ o. values_of n (or_nil o)) front ∙ ap (values_of n) i.1)

    pub seek-on : (f.number ≡ n → ⊥) → Seeking s n f.next
    seek-on d = record {
      inside = e.inside;
      framed = λ r. (split r).0;
      same = λ r. (split r).1 ∙ ap (λ b. cons_if b (value_in s f) (values_in n (drop f.next s))) (ne_eqb n f.number (λ h. d (sym h)));
    }

    pub seek_found : f.number ≡ n → NextIs s n f
    seek_found d = record {
      ends = found-later s 0 at f (omega arith) e;
      first = λ r. (split r).1 ∙ ap (λ b. cons_if b (value_in s f) (values_in n (drop f.next s))) (eq-eqb n f.number (sym d));
      framed = λ r. (split r).0;
    }
