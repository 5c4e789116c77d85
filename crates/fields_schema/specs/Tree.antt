-- What a message says: its listed fields, in order, at every depth. Nothing where a rule of document 01, "Frame and fields", is broken.
use Rattle.std.specs.Prelude.{ℕ, zero, suc, ◌-◌, ◌^◌, List, [], ◌∷◌, ◌++◌, Bool, true, false, cond, ltb, leb, eqb}
use Rattle.std.proofs.Math.Option.{Option, none, some}
use Rattle.fields_wire.specs.Wire.{Value, vint, v64, vlen, v32, Field, field, fields_of}
use Rattle.fields_schema.specs.Rules.{names_of, strict_of, rule_of}
use Rattle.fields_schema.specs.declared.Kind.{Kind}
use Rattle.fields_schema.specs.declared.Form.{Form}
use Rattle.fields_schema.specs.declared.Form.TheVariants.{Int64, Int32, Named, Flag, Bytes, Opaque, Float, Nested}
use Rattle.fields_schema.specs.declared.Rule.{Rule}
use Rattle.fields_schema.specs.declared.Rule.TheVariants.{Unlisted, Refused, Once, Single, Repeated}

abbrev pub map_o : {A B : Type 0} → (A → B) → Option A → Option B
map_o f none = none
map_o f (some a) = some (f a)

abbrev pub then_o : {A B : Type 0} → Option A → (A → Option B) → Option B
then_o none f = none
then_o (some a) f = f a

abbrev pub guard : {A : Type 0} → Bool → A → Option A
guard true a = some a
guard false a = none

abbrev pub is_some : {A : Type 0} → Option A → Bool
is_some none = false
is_some (some a) = true

abbrev pub among : ℕ → List ℕ → Bool
among n [] = false
among n (m ∷ ms) = cond (eqb n m) true (among n ms)

-- one level --------------------------------------------------------------------

-- what a listed field holds: a number, bytes, the four bytes of a float, or a message whose fields are not read yet
pub data Content : Type 0 where
  c_int : ℕ → Content
  c_raw : List ℕ → Content
  c_fix : List ℕ → Content
  c_msg : Kind → List ℕ → Content

pub data Item : Type 0 where
  item : ℕ → Content → Item

-- a word that is from -2^31 to 2^31 - 1 in two's complement
abbrev pub is_int32 : ℕ → Bool
is_int32 v = cond (ltb v (2 ^ 31)) true (leb (2 ^ 64 - 2 ^ 31) v)

-- "An int32 or enum outside -2^31 to 2^31-1 is refused; a bool is true if not zero"; "Enum values not named here refuse the command"
abbrev pub of_int : Form → ℕ → Option Content
of_int Int64 v = some (c_int v)
of_int Int32 v = guard (is_int32 v) (c_int v)
of_int (Named e) v = guard (among v (names_of e)) (c_int v)
of_int Flag v = some (c_int (cond (eqb v 0) 0 1))
of_int Bytes v = none
of_int Opaque v = none
of_int Float v = none
of_int (Nested k) v = none

abbrev pub of_bytes : Form → List ℕ → Option Content
of_bytes Int64 b = none
of_bytes Int32 b = none
of_bytes (Named e) b = none
of_bytes Flag b = none
of_bytes Bytes b = some (c_raw b)
of_bytes Opaque b = some (c_raw [])
of_bytes Float b = none
of_bytes (Nested k) b = some (c_msg k b)

-- document 003's floats are wire type 5
abbrev pub of_fixed : Form → List ℕ → Option Content
of_fixed Int64 b = none
of_fixed Int32 b = none
of_fixed (Named e) b = none
of_fixed Flag b = none
of_fixed Bytes b = none
of_fixed Opaque b = none
of_fixed Float b = some (c_fix b)
of_fixed (Nested k) b = none

-- what a value says under a form; "Listed fields with another wire type … are refused"
abbrev pub decode : Form → Value → Option Content
decode f (vint v) = of_int f v
decode f (v64 b) = none
decode f (vlen b) = of_bytes f b
decode f (v32 b) = of_fixed f b

-- the first item of a number
abbrev pub find : ℕ → List Item → Option Content
find n [] = none
find n (item m c ∷ is) = cond (eqb n m) (some c) (find n is)

abbrev pub add : ℕ → List Item → Option Content → Option (List Item)
add n acc none = none
add n acc (some c) = some (acc ++ (item n c ∷ []))

-- one field after the items found so far. Document 02, CR 5: "For singular listed fields follow the public encoding instead of refusing"; "Security sent
-- twice, a second singular field inside it … stay refused": these are Once
abbrev pub by_rule : Rule → Bool → ℕ → Value → List Item → Option (List Item)
by_rule Unlisted st n v acc = cond st none (some acc)
by_rule Refused st n v acc = none
by_rule (Once f) st n v acc = cond (is_some (find n acc)) none (add n acc (decode f v))
by_rule (Single f) st n v acc = add n acc (decode f v)
by_rule (Repeated f) st n v acc = add n acc (decode f v)

abbrev pub step : Kind → Field → List Item → Option (List Item)
step k (field n v) acc = by_rule (rule_of k n) (strict_of k) n v acc

unfoldable pub items : Kind → List Field → List Item → Option (List Item)
items k [] acc = some acc
items k (f ∷ fs) acc = then_o (step k f acc) (λ a. items k fs a)

abbrev pub items_o : Kind → Option (List Field) → List Item → Option (List Item)
items_o k none acc = none
items_o k (some fs) acc = items k fs acc

-- the listed fields of a message of kind k, in order
unfoldable pub level : Kind → List ℕ → Option (List Item)
level k m = items_o k (fields_of m) []

-- every level --------------------------------------------------------------------

-- the listed fields in order: each a number, bytes, a float's four bytes, or a message with its own
pub data Tree : Type 0 where
  done : Tree
  int : ℕ → ℕ → Tree → Tree
  raw : ℕ → List ℕ → Tree → Tree
  fix : ℕ → List ℕ → Tree → Tree
  sub : ℕ → Tree → Tree → Tree

abbrev pub open_one : (Kind → List ℕ → Option Tree) → ℕ → Content → Tree → Option Tree
open_one below n (c_int v) t = some (int n v t)
open_one below n (c_raw b) t = some (raw n b t)
open_one below n (c_fix b) t = some (fix n b t)
open_one below n (c_msg k b) t = map_o (λ s. sub n s t) (below k b)

abbrev pub open_item : (Kind → List ℕ → Option Tree) → Item → Option Tree → Option Tree
open_item below (item n c) rest = then_o rest (λ t. open_one below n c t)

unfoldable pub open_all : (Kind → List ℕ → Option Tree) → List Item → Option Tree
open_all below [] = some done
open_all below (i ∷ is) = open_item below i (open_all below is)

-- messages inside messages, at most d deep
unfoldable pub listed_in : ℕ → Kind → List ℕ → Option Tree
listed_in zero k m = none
listed_in (suc d) k m = then_o (level k m) (λ is. open_all (λ k' b. listed_in d k' b) is)

-- no kind of the table goes deeper than five: Command, Body, Security, ACL, Scope. `listed-opens` of `Depth` shows that nothing is lost
unfoldable pub listed : Kind → List ℕ → Option Tree
listed k m = listed_in 5 k m

-- look-ups by number: CR 5: "the last scalar or bytes value counts, embedded messages are merged" --------------------

abbrev pub later : {A : Type 0} → Option A → Option A → Option A
later none b = b
later (some a) b = some a

-- the last number
abbrev pub int_at : ℕ → Tree → Option ℕ
int_at n done = none
int_at n (int m v t) = later (int_at n t) (guard (eqb n m) v)
int_at n (raw m b t) = int_at n t
int_at n (fix m b t) = int_at n t
int_at n (sub m s t) = int_at n t

-- the last bytes
abbrev pub raw_at : ℕ → Tree → Option (List ℕ)
raw_at n done = none
raw_at n (int m v t) = raw_at n t
raw_at n (raw m b t) = later (raw_at n t) (guard (eqb n m) b)
raw_at n (fix m b t) = raw_at n t
raw_at n (sub m s t) = raw_at n t

-- the last float
abbrev pub fix_at : ℕ → Tree → Option (List ℕ)
fix_at n done = none
fix_at n (int m v t) = fix_at n t
fix_at n (raw m b t) = fix_at n t
fix_at n (fix m b t) = later (fix_at n t) (guard (eqb n m) b)
fix_at n (sub m s t) = fix_at n t

abbrev pub join : Tree → Tree → Tree
join done u = u
join (int n v t) u = int n v (join t u)
join (raw n b t) u = raw n b (join t u)
join (fix n b t) u = fix n b (join t u)
join (sub n s t) u = sub n s (join t u)

abbrev pub join_o : Bool → Tree → Option Tree → Option Tree
join_o false s o = o
join_o true s none = some s
join_o true s (some u) = some (join s u)

-- the message: the fields of all that have the number
abbrev pub sub_at : ℕ → Tree → Option Tree
sub_at n done = none
sub_at n (int m v t) = sub_at n t
sub_at n (raw m b t) = sub_at n t
sub_at n (fix m b t) = sub_at n t
sub_at n (sub m s t) = join_o (eqb n m) s (sub_at n t)

-- a message that is not there says nothing
abbrev pub tree_in : Option Tree → Tree
tree_in none = done
tree_in (some t) = t

abbrev pub cons_if : {A : Type 0} → Bool → A → List A → List A
cons_if false a as' = as'
cons_if true a as' = a ∷ as'

-- all that have the number, in order: numbers, bytes, messages
abbrev pub ints_at : ℕ → Tree → List ℕ
ints_at n done = []
ints_at n (int m v t) = cons_if (eqb n m) v (ints_at n t)
ints_at n (raw m b t) = ints_at n t
ints_at n (fix m b t) = ints_at n t
ints_at n (sub m s t) = ints_at n t

abbrev pub raws_at : ℕ → Tree → List (List ℕ)
raws_at n done = []
raws_at n (int m v t) = raws_at n t
raws_at n (raw m b t) = cons_if (eqb n m) b (raws_at n t)
raws_at n (fix m b t) = raws_at n t
raws_at n (sub m s t) = raws_at n t

abbrev pub subs_at : ℕ → Tree → List Tree
subs_at n done = []
subs_at n (int m v t) = subs_at n t
subs_at n (raw m b t) = subs_at n t
subs_at n (fix m b t) = subs_at n t
subs_at n (sub m s t) = cons_if (eqb n m) s (subs_at n t)
