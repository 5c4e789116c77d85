-- What the answers of the code on one field mean over the bytes s that it was read from.
use Rattle.std.specs.Prelude.{ℕ, ◌+◌, ◌^◌, ◌<◌, ◌≡◌, List, [], ◌∷◌, ◌++◌, Bool, true, false, cond, eqb, Option, Some, None, Result, Ok, Err}
use Rattle.std.proofs.Math.Option.{none, some}
use Rattle.fields_wire.specs.Wire.{Value, Field, field}
use Rattle.fields_wire_reader.specs.FieldAnswer.{number_in, asked_value}
use Rattle.fields_wire_reader.specs.declared.Found.{Found}
use Rattle.fields_schema.specs.Rules.{strict_of, rule_of}
use Rattle.fields_schema.specs.Tree.{is_some, Content, Item, item, find, step}
use Rattle.fields_schema.specs.declared.Kind.{Kind}
use Rattle.fields_schema.specs.declared.Form.{Form}
use Rattle.fields_schema.specs.declared.Rule.{Rule}
use Rattle.fields_schema.specs.declared.Rule.TheVariants.{Unlisted, Refused, Once, Single, Repeated}
use Rattle.fields_value.specs.Taken.{content_of, InsideTaken}
use Rattle.fields_rule.specs.declared.Refusal.{Refusal}
use Rattle.fields_rule.specs.declared.Refusal.TheVariants.{Never, Wrong}
use Rattle.fields_rule.specs.declared.Listed.{Listed}
use Rattle.fields_rule.specs.declared.Take.{Take}
use Rattle.base_definitions.specs.Bits.{bit}

abbrev pub is_single : Rule → Bool
is_single Unlisted = false
is_single Refused = false
is_single (Once f) = true
is_single (Single f) = true
is_single (Repeated f) = false

-- bit 0, which is no field's number: a singular number has come again
abbrev pub with_again : ℕ → ℕ
with_again seen = cond (bit seen 0) seen (seen + 2 ^ 0)

-- a mark, which may be there already
abbrev pub with_mark : ℕ → ℕ → ℕ
with_mark seen n = cond (bit seen n) (with_again seen) (seen + 2 ^ n)

-- a number occurs at most once
abbrev pub Sole : ℕ → List Item → Type 0
Sole n [] = Unit {0}
Sole n (item m c ∷ is) = (eqb n m ≡ true → find n is ≡ none) × Sole n is

-- the singular numbers that have come are the bits of a word; where none has come again, each occurs at most once
pub record Marks (k : Kind) (seen : ℕ) (is : List Item) : Type 0 where
  pub small : seen < 65536
  pub marks : (n : ℕ) → is_single (rule_of k n) ≡ true → bit seen n ≡ is_some (find n is)
  pub alone : bit seen 0 ≡ false → (n : ℕ) → is_single (rule_of k n) ≡ true → Sole n is

abbrev pub read_as : Form → ℕ → Result (Option Listed) Refusal
read_as f seen = Ok (Some (record { form = f; seen = seen }))

-- what a rule says of the number n, after the marks; document 02, CR 5: "Security sent twice, a second singular field inside it … stay refused"
abbrev pub listed_by : Rule → ℕ → ℕ → Result (Option Listed) Refusal
listed_by Unlisted seen n = Ok None
listed_by Refused seen n = Err Never
listed_by (Once f) seen n = cond (bit seen n) (Err Never) (read_as f (with_mark seen n))
listed_by (Single f) seen n = read_as f (with_mark seen n)
listed_by (Repeated f) seen n = read_as f seen

abbrev pub unlisted_of : Kind → Result (Option Take) Refusal
unlisted_of k = cond (strict_of k) (Err Never) (Ok None)

abbrev pub field_in : List ℕ → Option Found → Field
field_in s f = field (number_in f) (asked_value s f)

-- a listed field: the item that it adds
pub record Takes (s : List ℕ) (k : Kind) (is : List Item) (f : Option Found) (t : Take) : Type 0 where
  pub below : t.number < 16
  pub adds : step k (field_in s f) is ≡ some (is ++ (item t.number (content_of s t.what) ∷ []))
  pub inside : InsideTaken s t.what
  pub marked : (c : Content) → Marks k t.seen (is ++ (item t.number c ∷ []))

-- a field that is refused for what it holds: its number, and the marks with it
pub record Refuses (s : List ℕ) (k : Kind) (is : List Item) (f : Option Found) (n seen : ℕ) : Type 0 where
  pub number : n ≡ number_in f
  pub below : n < 16
  pub adds : step k (field_in s f) is ≡ none
  pub marked : (c : Content) → Marks k seen (is ++ (item n c ∷ []))

-- a field that may not be there, or not again, is refused whatever it holds
abbrev pub Judges : List ℕ → Kind → List Item → Option Found → Result (Option Take) Refusal → Type 0
Judges s k is f (Err Never) = (v : Value) → step k (field (number_in f) v) is ≡ none
Judges s k is f (Err (Wrong n seen)) = Refuses s k is f n seen
Judges s k is f (Ok None) = step k (field_in s f) is ≡ some is
Judges s k is f (Ok (Some t)) = Takes s k is f t
