-- The bytes of a tree, and which trees a kind of message may carry.
use Rattle.std.specs.Prelude.{ℕ, zero, suc, ◌+◌, ◌*◌, ◌/◌, ◌%◌, ◌^◌, ◌≤◌, ◌<◌, ◌≡◌, List, [], ◌∷◌, ◌++◌, Bool, cond, length}
use Rattle.std.proofs.Math.Option.{Option, none, some}
use Rattle.fields_wire.specs.Wire.{Value, vint, vlen, v32}
use Rattle.fields_wire.specs.Varint.{varint_bytes}
use Rattle.fields_schema.specs.Rules.{rule_of}
use Rattle.fields_schema.specs.Tree.{among, Content, c_int, c_raw, c_fix, c_msg, decode, Tree, done, int, raw, fix, sub}
use Rattle.fields_schema.specs.declared.Kind.{Kind}
use Rattle.fields_schema.specs.declared.Rule.{Rule}
use Rattle.fields_schema.specs.declared.Rule.TheVariants.{Unlisted, Refused, Once, Single, Repeated}

-- document 01: "field encoding is the public Protocol Buffers encoding"; "Replies": "shortest varints" ------------

-- a tag: the field number and the wire type
abbrev pub tag : ℕ → ℕ → List ℕ
tag n w = varint_bytes (8 * n + w)

-- a field that holds a number: wire type 0
abbrev pub int_field : ℕ → ℕ → List ℕ
int_field n v = tag n 0 ++ varint_bytes v

-- what stands before the bytes of a field that holds l of them: wire type 2, and the length
abbrev pub head : ℕ → ℕ → List ℕ
head n l = tag n 2 ++ varint_bytes l

-- a field that holds bytes
abbrev pub len_field : ℕ → List ℕ → List ℕ
len_field n b = head n (length b) ++ b

-- the four bytes of a float that is the 32-bit number b: the lowest first
abbrev pub float_bytes : ℕ → List ℕ
float_bytes b = b % 256 ∷ b / 256 % 256 ∷ b / 65536 % 256 ∷ b / 16777216 ∷ []

-- a field that holds a float's four bytes: wire type 5
abbrev pub fix_field : ℕ → List ℕ → List ℕ
fix_field n b = tag n 5 ++ b

-- the fields in the tree's order
unfoldable pub encode : Tree → List ℕ
encode done = []
encode (int n v t) = int_field n v ++ encode t
encode (raw n b t) = len_field n b ++ encode t
encode (fix n b t) = fix_field n b ++ encode t
encode (sub n s t) = len_field n (encode s) ++ encode t

-- fields that may be left out, before the rest of a tree ------------------------------

-- a number, if there is one
unfoldable pub int_o : ℕ → Option ℕ → Tree → Tree
int_o n none t = t
int_o n (some v) t = int n v t

-- a number, if it is not 0; document 01, "Replies": "empty ones omitted"
unfoldable pub int_if : ℕ → ℕ → Tree → Tree
int_if n zero t = t
int_if n (suc v) t = int n (suc v) t

-- bytes, if they are not empty
unfoldable pub raw_if : ℕ → List ℕ → Tree → Tree
raw_if n [] t = t
raw_if n (b ∷ bs) t = raw n (b ∷ bs) t

-- a float, if there is one
unfoldable pub fix_o : ℕ → Option (List ℕ) → Tree → Tree
fix_o n none t = t
fix_o n (some b) t = fix n b t

-- a repeated field: document 01, "Replies": "range with 8 for each key"
unfoldable pub each : ℕ → List (List ℕ) → Tree → Tree
each n [] t = t
each n (b ∷ bs) t = raw n b (each n bs t)

-- a message, if there is one
unfoldable pub sub_o : ℕ → Option Tree → Tree → Tree
sub_o n none t = t
sub_o n (some s) t = sub n s t

-- a repeated message
unfoldable pub each_sub : ℕ → List Tree → Tree → Tree
each_sub n [] t = t
each_sub n (s ∷ ss) t = sub n s (each_sub n ss t)

-- what a kind may carry: `Back` shows that such a tree is read back, `Canonical` that only such trees are read --------

-- "Field numbers 1 to 2^29-1"
pub record FieldNumber (n : ℕ) : Type 0 where
  pub above : 1 ≤ n
  pub below : n < 2 ^ 29

-- what the value v says under a rule, where the number came before or not
abbrev pub says : Rule → Bool → Value → Option Content
says Unlisted before v = none
says Refused before v = none
says (Once f) before v = cond before none (decode f v)
says (Single f) before v = decode f v
says (Repeated f) before v = decode f v

-- a tree that may follow fields of the numbers ns in a message of kind k
pub data FitsAfter : Kind → List ℕ → Tree → Type 0 where
  ends : {k : Kind} {ns : List ℕ} → FitsAfter k ns done
  ints : {k : Kind} {ns : List ℕ} {n v : ℕ} {t : Tree} → FieldNumber n → v < 2 ^ 64 → says (rule_of k n) (among n ns) (vint v) ≡ some (c_int v)
      → FitsAfter k (n ∷ ns) t → FitsAfter k ns (int n v t)
  raws : {k : Kind} {ns : List ℕ} {n : ℕ} {b : List ℕ} {t : Tree} → FieldNumber n → length b < 2 ^ 64 → says (rule_of k n) (among n ns) (vlen b) ≡ some (c_raw b)
      → FitsAfter k (n ∷ ns) t → FitsAfter k ns (raw n b t)
  fixs : {k : Kind} {ns : List ℕ} {n : ℕ} {b : List ℕ} {t : Tree} → FieldNumber n → length b ≡ 4 → says (rule_of k n) (among n ns) (v32 b) ≡ some (c_fix b)
      → FitsAfter k (n ∷ ns) t → FitsAfter k ns (fix n b t)
  subs : {k : Kind} {ns : List ℕ} {n : ℕ} {s t : Tree} (k' : Kind) → FieldNumber n → length (encode s) < 2 ^ 64
      → says (rule_of k n) (among n ns) (vlen (encode s)) ≡ some (c_msg k' (encode s)) → FitsAfter k' [] s → FitsAfter k (n ∷ ns) t → FitsAfter k ns (sub n s t)

-- a tree that a message of kind k may carry
abbrev pub Fits : Kind → Tree → Type 0
Fits k t = FitsAfter k [] t
