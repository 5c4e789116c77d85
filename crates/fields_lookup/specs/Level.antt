-- From the items of a level to the tree: the last number or bytes of a singular field; of a message that occurs once, that one.
use Rattle.std.specs.Prelude.{ℕ, ◌≡◌, List, [], ◌∷◌, true, eqb}
use Rattle.std.proofs.Math.Option.{Option, none, some}
use Rattle.fields_wire.specs.Wire.{Value}
use Rattle.fields_schema.specs.Tree.{Content, c_int, c_raw, c_fix, c_msg, Item, item, decode}
use Rattle.fields_schema.specs.Tree.{Tree, listed}
use Rattle.fields_schema.specs.declared.Form.{Form}

-- what is under a number, of one sort
abbrev pub AllOf : (Content → Type 0) → ℕ → List Item → Type 0
AllOf P n [] = Unit {0}
AllOf P n (item m c ∷ is) = (eqb n m ≡ true → P c) × AllOf P n is

abbrev pub Decodes : Form → Content → Type 0
Decodes f c = (v : Value) × (decode f v ≡ some c)

-- in the tree -----------------------------------------------------------------------------------
abbrev pub int_c : Option Content → Option ℕ
int_c none = none
int_c (some (c_int v)) = some v
int_c (some (c_raw b)) = none
int_c (some (c_fix b)) = none
int_c (some (c_msg k b)) = none

abbrev pub raw_c : Option Content → Option (List ℕ)
raw_c none = none
raw_c (some (c_int v)) = none
raw_c (some (c_raw b)) = some b
raw_c (some (c_fix b)) = none
raw_c (some (c_msg k b)) = none

abbrev pub sub_c : Option Content → Option Tree
sub_c none = none
sub_c (some (c_int v)) = none
sub_c (some (c_raw b)) = none
sub_c (some (c_fix b)) = none
sub_c (some (c_msg k b)) = listed k b

-- of a sort
abbrev pub Is : {A : Type 0} → (Option Content → Option A) → Content → Type 0
Is {A} X c = (v : A) × (X (some c) ≡ some v)

abbrev pub IsMessage : Content → Type 0
IsMessage (c_int v) = ⊥
IsMessage (c_raw b) = ⊥
IsMessage (c_fix b) = ⊥
IsMessage (c_msg k b) = Unit {0}
