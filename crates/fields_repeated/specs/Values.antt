-- The values of one number, in order, and what the answers of the search for the next mean.
use Rattle.std.specs.Prelude.{ℕ, ◌<◌, ◌≡◌, List, [], ◌∷◌, true, drop, eqb}
use Rattle.std.proofs.Math.Option.{Option, none, some}
use Rattle.fields_wire.specs.Wire.{Value, vint, v64, vlen, v32, Field, field, fields_of}
use Rattle.std.specs.Prelude.{Option as Perhaps, Some, None}
use Rattle.fields_wire_reader.specs.FieldAnswer.{EndsFound, value_in}
use Rattle.fields_wire_reader.specs.declared.Found.{Found}
use Rattle.fields_schema.specs.Tree.{is_some, cons_if}
use Rattle.fields_lookup.specs.Views.{bytes_at, Inside, Lies}
use Rattle.fields_lookup.specs.declared.parts.Part.{Part}

abbrev pub values_of : ℕ → List Field → List Value
values_of n [] = []
values_of n (field m v ∷ fs) = cons_if (eqb n m) v (values_of n fs)

abbrev pub or_nil : Option (List Field) → List Field
or_nil none = []
or_nil (some fs) = fs

-- the values of number n in a message
unfoldable pub values_in : ℕ → List ℕ → List Value
values_in n m = values_of n (or_nil (fields_of m))

-- as bytes, and as numbers, up to the first that is neither
abbrev pub parts_of : List Value → List (List ℕ)
parts_of [] = []
parts_of (vint v ∷ vs) = []
parts_of (v64 b ∷ vs) = []
parts_of (vlen b ∷ vs) = b ∷ parts_of vs
parts_of (v32 b ∷ vs) = []

abbrev pub numbers_of : List Value → List ℕ
numbers_of [] = []
numbers_of (vint v ∷ vs) = v ∷ numbers_of vs
numbers_of (v64 b ∷ vs) = []
numbers_of (vlen b ∷ vs) = []
numbers_of (v32 b ∷ vs) = []

abbrev pub parts_in : ℕ → List ℕ → List (List ℕ)
parts_in n m = parts_of (values_in n m)

abbrev pub numbers_in : ℕ → List ℕ → List ℕ
numbers_in n m = numbers_of (values_in n m)

abbrev pub WellFramed : List ℕ → Type 0
WellFramed m = is_some (fields_of m) ≡ true

-- the first value is what was found, and the others come after it
pub record NextIs (s : List ℕ) (n : ℕ) (f : Found) : Type 0 where
  pub ends : EndsFound s 0 f
  pub first : WellFramed s → values_in n s ≡ value_in s f ∷ values_in n (drop f.next s)
  pub framed : WellFramed s → WellFramed (drop f.next s)

abbrev pub NextFound : List ℕ → ℕ → Perhaps Found → Type 0
NextFound s n (Some f) = NextIs s n f
NextFound s n None = WellFramed s → values_in n s ≡ []

-- the first value is `head`, and the others lie in what is left, which is shorter
pub record Next {A : Type 0} (values : List ℕ → List A) (s : List ℕ) (left rest : Part) (head : A) : Type 0 where
  pub inside : Inside s rest
  pub shorter : rest.len < left.len
  pub first : WellFramed (bytes_at s left) → values (bytes_at s left) ≡ head ∷ values (bytes_at s rest)
  pub framed : WellFramed (bytes_at s left) → WellFramed (bytes_at s rest)

-- of parts and of numbers; or there is none
abbrev pub NextPartIs : List ℕ → Part → ℕ → Perhaps (Part × Part) → Type 0
NextPartIs s left n None = WellFramed (bytes_at s left) → parts_in n (bytes_at s left) ≡ []
NextPartIs s left n (Some (part, rest)) = Lies s part × Next (parts_in n) s left rest (bytes_at s part)

abbrev pub NextNumIs : List ℕ → Part → ℕ → Perhaps (ℕ × Part) → Type 0
NextNumIs s left n None = WellFramed (bytes_at s left) → numbers_in n (bytes_at s left) ≡ []
NextNumIs s left n (Some (value, rest)) = Next (numbers_in n) s left rest value
