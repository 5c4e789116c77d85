-- How deep the messages of each kind go: a message inside one of kind k has a kind of lower depth. A test over the table.
use Rattle.std.specs.Prelude.{ℕ, ◌<◌, ◌≤◌, ◌≡◌, refl, List, Bool, true, false, cond, ltb, eqb}
use Rattle.std.proofs.Common.{arith, ltb-true}
use Rattle.std.proofs.Math.Option.{some}
use Rattle.fields_wire.specs.Wire.{vlen}
use Rattle.fields_schema.specs.Rules.{Table, end, row, table_of, look, rule_of}
use Rattle.fields_schema.specs.Tree.{c_msg, of_bytes}
use Rattle.fields_encoding.proofs.BasicLaws.{never}
use Rattle.fields_encoding.specs.Encode.{says}
use Rattle.fields_schema.specs.declared.Kind.{Kind}
use Rattle.fields_schema.specs.declared.Kind.TheVariants.{Message, HmacAuth, Command, Header, Body, KeyValue, Range, Setup, GetLog, Security, Acl, Scope, ReplyCommand, ReplyBody, ReplyRange, ReplyGetLog, Utilization, Temperature, Capacity, Limits, Status}
use Rattle.fields_schema.specs.declared.Form.{Form}
use Rattle.fields_schema.specs.declared.Form.TheVariants.{Int64, Int32, Named, Flag, Bytes, Opaque, Float, Nested}
use Rattle.fields_schema.specs.declared.Rule.{Rule}
use Rattle.fields_schema.specs.declared.Rule.TheVariants.{Unlisted, Refused, Once, Single, Repeated}
use Rattle.fields_encoding.specs.Depth.{depth}

abbrev form_below : ℕ → Form → Bool
form_below d Int64 = true
form_below d Int32 = true
form_below d (Named e) = true
form_below d Flag = true
form_below d Bytes = true
form_below d Opaque = true
form_below d Float = true
form_below d (Nested k) = ltb (depth k) d

abbrev rule_below : ℕ → Rule → Bool
rule_below d Unlisted = true
rule_below d Refused = true
rule_below d (Once f) = form_below d f
rule_below d (Single f) = form_below d f
rule_below d (Repeated f) = form_below d f

abbrev table_below : ℕ → Table → Bool
table_below d end = true
table_below d (row n r t) = cond (rule_below d r) (table_below d t) false

table_below_lem : (k : Kind) → table_below (depth k) (table_of k) ≡ true
table_below_lem Message = refl
table_below_lem HmacAuth = refl
table_below_lem Command = refl
table_below_lem Header = refl
table_below_lem Body = refl
table_below_lem KeyValue = refl
table_below_lem Range = refl
table_below_lem Setup = refl
table_below_lem GetLog = refl
table_below_lem Security = refl
table_below_lem Acl = refl
table_below_lem Scope = refl
table_below_lem ReplyCommand = refl
table_below_lem ReplyBody = refl
table_below_lem ReplyRange = refl
table_below_lem ReplyGetLog = refl
table_below_lem Utilization = refl
table_below_lem Temperature = refl
table_below_lem Capacity = refl
table_below_lem Limits = refl
table_below_lem Status = refl

both_true : (s t : Bool) → cond s t false ≡ true → (s ≡ true) × (t ≡ true)
both_true true t h = (refl, h)
both_true false t h = never (cc)

look-below : (d n : ℕ) (t : Table) → table_below d t ≡ true → rule_below d (look n t) ≡ true
look-below d n end h = refl
look-below d n (row m r t) h = let b = both_true (rule_below d r) (table_below d t) h in go (eqb n m) b.0 (look-below d n t b.1)
  where
    go : (s : Bool) → rule_below d r ≡ true → rule_below d (look n t) ≡ true → rule_below d (cond s r (look n t)) ≡ true
    go true p q = p
    go false p q = q

-- only the form of a message says a message, with those bytes
form-message : (f : Form) (k : Kind) (b c : List ℕ) → of_bytes f b ≡ some (c_msg k c) → (f ≡ Nested k) × (c ≡ b)
form-message Int64 k b c e = never (cc)
form-message Int32 k b c e = never (cc)
form-message (Named n) k b c e = never (cc)
form-message Flag k b c e = never (cc)
form-message Bytes k b c e = never (cc)
form-message Opaque k b c e = never (cc)
form-message Float k b c e = never (cc)
form-message (Nested j) k b c e = (cc, cc)

form-below : (d : ℕ) (f : Form) (k : Kind) (b c : List ℕ) → form_below d f ≡ true → of_bytes f b ≡ some (c_msg k c) → (depth k < d) × (c ≡ b)
form-below d f k b c h e = let m = form-message f k b c e in (ltb-true (depth k) d (rw m.0 at h), m.1)

rule-below : (d : ℕ) (r : Rule) (s : Bool) (k : Kind) (b c : List ℕ) → rule_below d r ≡ true → says r s (vlen b) ≡ some (c_msg k c)
    → (depth k < d) × (c ≡ b)
rule-below d Unlisted s k b c h g = never (cc)
rule-below d Refused s k b c h g = never (cc)
rule-below d (Once f) true k b c h g = never (cc)
rule-below d (Once f) false k b c h g = form-below d f k b c h g
rule-below d (Single f) s k b c h g = form-below d f k b c h g
rule-below d (Repeated f) s k b c h g = form-below d f k b c h g

-- a message inside one of kind k
pub says-message : (k : Kind) (n : ℕ) (s : Bool) (k' : Kind) (b c : List ℕ) → says (rule_of k n) s (vlen b) ≡ some (c_msg k' c)
    → (depth k' < depth k) × (c ≡ b)
says-message k n s k' b c g = rule-below (depth k) (rule_of k n) s k' b c (look-below (depth k) n (table_of k) (table_below_lem k)) g

-- the deepest: Command, Body, Security, ACL, Scope
pub depth-most : (k : Kind) → depth k ≤ 4
depth-most Message = omega arith
depth-most HmacAuth = omega arith
depth-most Command = omega arith
depth-most Header = omega arith
depth-most Body = omega arith
depth-most KeyValue = omega arith
depth-most Range = omega arith
depth-most Setup = omega arith
depth-most GetLog = omega arith
depth-most Security = omega arith
depth-most Acl = omega arith
depth-most Scope = omega arith
depth-most ReplyCommand = omega arith
depth-most ReplyBody = omega arith
depth-most ReplyRange = omega arith
depth-most ReplyGetLog = omega arith
depth-most Utilization = omega arith
depth-most Temperature = omega arith
depth-most Capacity = omega arith
depth-most Limits = omega arith
depth-most Status = omega arith
