-- What the slots show of a message's level.
use Rattle.std.specs.Prelude.{ℕ, ◌+◌, ◌≤◌, ◌≡◌, List, [], ◌∷◌, true, false, length, take, drop, get_or, eqb}
use Rattle.std.proofs.Math.Option.{Option, none, some}
use Rattle.fields_schema.specs.Rules.{rule_of}
use Rattle.fields_schema.specs.Tree.{guard, later, Content, c_int, c_raw, c_fix, c_msg, Item, item}
use Rattle.fields_rule.specs.Judged.{is_single, Marks}
use Rattle.fields_schema.specs.declared.Kind.{Kind}
use Rattle.fields_value.specs.declared.Taken.{Taken}
use Rattle.fields_value.specs.declared.Taken.TheVariants.{Number, Slice, Fixed, Inside}
use Rattle.fields_decode.specs.declared.slots.Slot.{Slot}
use Rattle.fields_decode.specs.declared.slots.Slots.{Slots}

-- the last item of a number
abbrev pub find_last : ℕ → List Item → Option Content
find_last n [] = none
find_last n (item m c ∷ is) = later (find_last n is) (guard (eqb n m) c)

-- the arrays are whole
pub record Sized (t : Slots) : Type 0 where
  pub value : length t.value ≡ 16
  pub len : length t.len ≡ 16

-- what is stored of a field
abbrev pub slot_of : Taken → Slot
slot_of (Number v) = record { value = v; len = 0 }
slot_of (Slice start len) = record { value = start; len = len }
slot_of (Fixed start) = record { value = start; len = 4 }
slot_of (Inside k start len) = record { value = start; len = len }

-- a and b say what a field holds: the number a, or the b bytes from a, which lie inside
abbrev pub Shows : List ℕ → ℕ → ℕ → Content → Type 0
Shows s a b (c_int v) = a ≡ v
Shows s a b (c_raw x) = (take b (drop a s) ≡ x) × (a + b ≤ length s)
Shows s a b (c_fix x) = (take b (drop a s) ≡ x) × (a + b ≤ length s)
Shows s a b (c_msg k x) = (take b (drop a s) ≡ x) × (a + b ≤ length s)

-- the slots show the singular items
pub record Holds (k : Kind) (s : List ℕ) (t : Slots) (is : List Item) : Type 0 where
  pub ok : t.ok ≡ true
  pub sized : Sized t
  pub marks : Marks k t.has is
  pub shows : (n : ℕ) (c : Content) → is_single (rule_of k n) ≡ true → find_last n is ≡ some c → Shows s (get_or t.value n 0) (get_or t.len n 0) c

-- the slots say what a level holds, or that it is refused
abbrev pub Tells : Kind → List ℕ → Slots → Option (List Item) → Type 0
Tells k s t none = t.ok ≡ false
Tells k s t (some is) = Holds k s t is
