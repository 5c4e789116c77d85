-- Document 02, CR 5, "Fields sent twice": "For singular listed fields follow the public encoding instead of refusing: the last scalar or bytes value
-- counts, embedded messages are merged". The public encoding: the concatenation of two messages reads as the two merged.
use Rattle.std.specs.Prelude.{ℕ, ◌≡◌, List, [], ◌∷◌, Bool, true, false, not, cond, eqb}
use Rattle.std.proofs.Math.Option.{Option, some}
use Rattle.fields_wire.specs.Wire.{vint, v64, vlen, v32, Field, field, fields_of}
use Rattle.fields_schema.specs.FieldNumbers.{Body-security, ACL-identity, ACL-key, ACL-hmac_algorithm, Scope-offset, Scope-value, Scope-tls_required}
use Rattle.fields_schema.specs.Rules.{Table, end, row}
use Rattle.fields_schema.specs.Tree.{guard, among, Tree, done, int, raw, fix, sub, join, cons_if}
use Rattle.fields_schema.specs.declared.Kind.{Kind}
use Rattle.fields_schema.specs.declared.Kind.TheVariants.{Message, HmacAuth, Command, Header, Body, KeyValue, Range, Setup, GetLog, Security, Acl, Scope, ReplyCommand, ReplyBody, ReplyRange, ReplyGetLog, Utilization, Temperature, Capacity, Limits, Status}
use Rattle.fields_schema.specs.declared.Rule.{Rule}
use Rattle.fields_schema.specs.declared.Rule.TheVariants.{Unlisted, Refused, Once, Single, Repeated}

-- "Security sent twice, a second singular field inside it … stay refused": the numbers that may be sent only once. Written out here and not taken from
-- the table
abbrev pub once_numbers : Kind → List ℕ
once_numbers Message = []
once_numbers HmacAuth = []
once_numbers Command = []
once_numbers Header = []
once_numbers Body = Body-security ∷ []
once_numbers KeyValue = []
once_numbers Range = []
once_numbers Setup = []
once_numbers GetLog = []
-- its acls are repeated
once_numbers Security = []
once_numbers Acl = ACL-identity ∷ ACL-key ∷ ACL-hmac_algorithm ∷ []
once_numbers Scope = Scope-offset ∷ Scope-value ∷ Scope-tls_required ∷ []
once_numbers ReplyCommand = []
once_numbers ReplyBody = Body-security ∷ []
once_numbers ReplyRange = []
once_numbers ReplyGetLog = []
once_numbers Utilization = []
once_numbers Temperature = []
once_numbers Capacity = []
once_numbers Limits = []
once_numbers Status = []

-- two messages merged ------------------------------------------------------------------------------------------------

-- the numbers of what a message says, in order
abbrev pub tree_numbers : Tree → List ℕ
tree_numbers done = []
tree_numbers (int n v t) = n ∷ tree_numbers t
tree_numbers (raw n b t) = n ∷ tree_numbers t
tree_numbers (fix n b t) = n ∷ tree_numbers t
tree_numbers (sub n s t) = n ∷ tree_numbers t

abbrev pub in_both : ℕ → List ℕ → List ℕ → Bool
in_both n ms ns = cond (among n ms) (among n ns) false

-- none of the numbers os is in both ms and ns
abbrev pub none_in_both : List ℕ → List ℕ → List ℕ → Bool
none_in_both os [] ns = true
none_in_both os (m ∷ ms) ns = cond (in_both m os ns) false (none_in_both os ms ns)

-- no number that may be sent only once is in both
abbrev pub apart : Kind → Tree → Tree → Bool
apart k t u = none_in_both (once_numbers k) (tree_numbers t) (tree_numbers u)

-- two messages of kind k merged
abbrev pub merged : Kind → Tree → Tree → Option Tree
merged k t u = guard (apart k t u) (join t u)

-- the occurrences of a field -------------------------------------------------------------------------------------------

-- none of the numbers os is there twice
abbrev pub none_twice : List ℕ → List ℕ → Bool
none_twice os [] = true
none_twice os (n ∷ ns) = cond (in_both n os ns) false (none_twice os ns)

-- no number that may be sent only once is there twice
abbrev pub once_each : Kind → Tree → Bool
once_each k t = none_twice (once_numbers k) (tree_numbers t)

-- the bytes that the fields of a number hold, in order
abbrev pub occurrences : ℕ → List Field → List (List ℕ)
occurrences n [] = []
occurrences n (field m (vint v) ∷ fs) = occurrences n fs
occurrences n (field m (v64 b) ∷ fs) = occurrences n fs
occurrences n (field m (vlen b) ∷ fs) = cons_if (eqb n m) b (occurrences n fs)
occurrences n (field m (v32 b) ∷ fs) = occurrences n fs

-- the numbers of the fields that are sent, listed or not
abbrev pub field_numbers : List Field → List ℕ
field_numbers [] = []
field_numbers (field n v ∷ fs) = n ∷ field_numbers fs

-- a well-framed message in which a field of the number is sent
pub record Sends (n : ℕ) (m : List ℕ) : Type 0 where
  pub fields : List Field
  pub framed : fields_of m ≡ some fields
  pub there : among n (field_numbers fields) ≡ true

-- the rows of the table -------------------------------------------------------------------------------------------------

abbrev pub is_once : Rule → Bool
is_once Unlisted = false
is_once Refused = false
is_once (Once f) = true
is_once (Single f) = false
is_once (Repeated f) = false

abbrev pub without : ℕ → List ℕ → List ℕ
without n [] = []
without n (m ∷ ms) = cons_if (not (eqb n m)) m (without n ms)

abbrev pub once_row : Rule → ℕ → List ℕ → List ℕ
once_row Unlisted n ns = without n ns
once_row Refused n ns = without n ns
once_row (Once f) n ns = n ∷ ns
once_row (Single f) n ns = without n ns
once_row (Repeated f) n ns = without n ns

-- the numbers whose rule is Once; the first row of a number counts
abbrev pub once_rows : Table → List ℕ
once_rows end = []
once_rows (row n r t) = once_row r n (once_rows t)
