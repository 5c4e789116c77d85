-- What the answers of the look-ups mean over the bytes that they point into.
use Rattle.std.specs.Prelude.{ℕ, ◌+◌, ◌≤◌, ◌≡◌, List, [], Bool, true, false, length, take, drop, get_or, ℤ, Some, None}
use Rattle.std.specs.Prelude as std
use Rattle.std.proofs.Math.Option.{Option, none, some}
use Rattle.fields_schema.specs.Rules.{rule_of}
use Rattle.fields_schema.specs.Tree.{guard, is_some, level, Tree, join, listed, int_at, raw_at, sub_at, tree_in}
use Rattle.base_definitions.specs.Options.{or_else}
use Rattle.base_definitions.specs.Bits.{bit}
use Rattle.base_integers.specs.Signed.{word_of}
use Rattle.fields_decode.specs.Slots.{Tells}
use Rattle.fields_schema.specs.declared.Kind.{Kind}
use Rattle.fields_schema.specs.declared.Form.{Form}
use Rattle.fields_schema.specs.declared.Form.TheVariants.{Int64, Int32, Named, Flag, Bytes, Opaque, Float, Nested}
use Rattle.fields_schema.specs.declared.Rule.{Rule}
use Rattle.fields_schema.specs.declared.Rule.TheVariants.{Unlisted, Refused, Once, Single, Repeated}
use Rattle.fields_decode.specs.declared.slots.Slots.{Slots}
use Rattle.fields_lookup.specs.declared.parts.Part.{Part}

-- a message that decodes, and what it says
abbrev pub Reads : Kind → List ℕ → Type 0
Reads k m = is_some (listed k m) ≡ true

unfoldable pub tree_of : Kind → List ℕ → Tree
tree_of k m = tree_in (listed k m)

-- the answers, as the definitions have them
abbrev pub num_view : std.Option ℕ → Option ℕ
num_view None = none
num_view (Some v) = some v

-- of a signed number its word, which is what a tree has
abbrev pub signed_view : std.Option ℤ → Option ℕ
signed_view None = none
signed_view (Some v) = some (word_of v)

unfoldable pub bytes_at : List ℕ → Part → List ℕ
bytes_at s p = take p.len (drop p.start s)

abbrev pub part_view : List ℕ → Part → Option (List ℕ)
part_view s p = guard p.has (bytes_at s p)

abbrev pub no_part : Part
no_part = record { has = false; start = 0; len = 0 }

abbrev pub Inside : List ℕ → Part → Type 0
Inside s p = p.start + p.len ≤ length s

-- a part lies inside, and is empty where there is none
pub record Lies (s : List ℕ) (p : Part) : Type 0 where
  pub inside : Inside s p
  pub empty : bytes_at s p ≡ or_else [] (part_view s p)

-- t holds the level of m, of kind k, which decodes
pub record Level (k : Kind) (m : List ℕ) (t : Slots) : Type 0 where
  pub tells : Tells k m t (level k m)
  pub reads : Reads k m

abbrev pub SlotInside : List ℕ → Slots → ℕ → Type 0
SlotInside m t n = bit t.has n ≡ true → get_or t.value n 0 + get_or t.len n 0 ≤ length m

-- a singular field of this form
abbrev pub Singular : Form → Rule → Type 0
Singular f Unlisted = ⊥
Singular f Refused = ⊥
Singular f (Once g) = f ≡ g
Singular f (Single g) = f ≡ g
Singular f (Repeated g) = ⊥

abbrev pub is_numeric : Form → Bool
is_numeric Int64 = true
is_numeric Int32 = true
is_numeric (Named e) = true
is_numeric Flag = true
is_numeric Bytes = false
is_numeric Opaque = false
is_numeric Float = false
is_numeric (Nested k) = false

-- singular fields that hold a number
abbrev pub is_number : Rule → Bool
is_number Unlisted = false
is_number Refused = false
is_number (Once f) = is_numeric f
is_number (Single f) = is_numeric f
is_number (Repeated f) = false

-- a field that occurs at most once: by its rule, or since no singular field of the level has come again
abbrev pub Alone : Rule → Slots → Type 0
Alone Unlisted t = ⊥
Alone Refused t = ⊥
Alone (Once f) t = Unit {0}
Alone (Single f) t = bit t.has 0 ≡ false
Alone (Repeated f) t = ⊥

-- the number that the message has there
abbrev pub NumIs : Slots → ℕ → std.Option ℕ → Type 0
NumIs t n r = (k : Kind) (m : List ℕ) → Level k m t → is_number (rule_of k n) ≡ true → num_view r ≡ int_at n (tree_of k m)

abbrev pub SignedIs : Slots → ℕ → std.Option ℤ → Type 0
SignedIs t n r = (k : Kind) (m : List ℕ) → Level k m t → is_number (rule_of k n) ≡ true → signed_view r ≡ int_at n (tree_of k m)

-- a part where a message of kind k lies: it decodes, as the tree if there is one
pub record Sub (k : Kind) (s : List ℕ) (r : Part) (o : Option Tree) : Type 0 where
  pub reads : Reads k (bytes_at s r)
  pub tree : tree_of k (bytes_at s r) ≡ tree_in o
  pub here : r.has ≡ is_some o

-- the last bytes, or the only message, that the message in the part p has there
pub record PartIs (s : List ℕ) (p : Part) (t : Slots) (n : ℕ) (r : Part) : Type 0 where
  pub bytes : (k : Kind) → Level k (bytes_at s p) t → Singular Bytes (rule_of k n) → part_view s r ≡ raw_at n (tree_of k (bytes_at s p))
  pub message : (k k' : Kind) → Level k (bytes_at s p) t → Singular (Nested k') (rule_of k n) → Alone (rule_of k n) t → Sub k' s r (sub_at n (tree_of k (bytes_at s p)))
  pub here : (k k' : Kind) → Level k (bytes_at s p) t → Singular (Nested k') (rule_of k n) → r.has ≡ is_some (sub_at n (tree_of k (bytes_at s p)))
  pub lies : Lies s r

-- where the last message of kind k lies, if there is one; it is the only one unless a singular field of the level was sent twice
pub record Only (k : Kind) (s : List ℕ) (r : Part) (twice : Bool) (o : Option Tree) : Type 0 where
  pub inside : Inside s r
  pub here : r.has ≡ is_some o
  pub sole : twice ≡ false → Sub k s r o

-- what was read before, with the fields of u after: P says what is read of the fields that a tree has
abbrev pub After : {A : Type 0} → (Tree → A → Type 0) → A → A → Tree → Type 0
After P before r u = (t : Tree) → P t before → P (join t u) r

-- what is read of two that are merged, from what was read of each
abbrev pub Merges : {A : Type 0} → (Tree → A → Type 0) → A → A → A → Type 0
Merges P before after r = (t u : Tree) → P t before → P u after → P (join t u) r
