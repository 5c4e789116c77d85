-- The depth allowance of `listed` loses nothing: no kind of the table goes deeper.
use Rattle.std.specs.Prelude.{ℕ, zero, suc, ◌≤◌, ◌≡◌, Bool, true, false, cond, eqb}
use Rattle.std.proofs.Common.{arith, sym, ◌∙◌}
use Rattle.std.proofs.Math.Path.{refl, ap, fun_ext}
use mathlib.Core.List.{List, [], ◌∷◌, ◌++◌}
use Rattle.std.proofs.Math.Option.{Option, none, some}
use Rattle.fields_wire.specs.Wire.{Value, vint, v64, vlen, v32, Field, field, fields_of}
use Rattle.fields_schema.specs.Rules.{names_of, Table, end, row, look, table_of, strict_of, rule_of}
use Rattle.fields_schema.specs.Tree.{map_o, then_o, guard, is_some, among, Content, c_int, c_raw, c_fix, c_msg, Item, item, is_int32, of_int, of_bytes, of_fixed, decode, find, add, by_rule, step, items, items_o, level}
use Rattle.fields_schema.specs.Tree.{Tree, sub, open_one, open_all, listed_in, listed}
use Rattle.fields_schema.specs.declared.Kind.{Kind}
use Rattle.fields_schema.specs.declared.Kind.TheVariants.{Message, HmacAuth, Command, Header, Body, KeyValue, Range, Setup, GetLog, Security, Acl, Scope, ReplyCommand, ReplyBody, ReplyRange, ReplyGetLog, Utilization, Temperature, Capacity, Limits, Status}
use Rattle.fields_schema.specs.declared.Form.{Form}
use Rattle.fields_schema.specs.declared.Form.TheVariants.{Int64, Int32, Named, Flag, Bytes, Opaque, Float, Nested}
use Rattle.fields_schema.specs.declared.Rule.{Rule}
use Rattle.fields_schema.specs.declared.Rule.TheVariants.{Unlisted, Refused, Once, Single, Repeated}

-- the test: the messages inside a message of a kind go at most so deep, by the rows of the table ----------------------

abbrev form_fits : (Kind → Bool) → Form → Bool
form_fits p Int64 = true
form_fits p Int32 = true
form_fits p (Named e) = true
form_fits p Flag = true
form_fits p Bytes = true
form_fits p Opaque = true
form_fits p Float = true
form_fits p (Nested k) = p k

abbrev rule_fits : (Kind → Bool) → Rule → Bool
rule_fits p Unlisted = true
rule_fits p Refused = true
rule_fits p (Once f) = form_fits p f
rule_fits p (Single f) = form_fits p f
rule_fits p (Repeated f) = form_fits p f

abbrev rows_fit : (Kind → Bool) → Table → Bool
rows_fit p end = true
rows_fit p (row n r t) = cond (rule_fits p r) (rows_fit p t) false

unfoldable fits_in : ℕ → Kind → Bool
fits_in zero k = false
fits_in (suc d) k = rows_fit (λ k'. fits_in d k') (table_of k)

-- computed
all_fit : (k : Kind) → fits_in 5 k ≡ true
unfolding fits_in
all_fit Message = refl
all_fit HmacAuth = refl
all_fit Command = refl
all_fit Header = refl
all_fit Body = refl
all_fit KeyValue = refl
all_fit Range = refl
all_fit Setup = refl
all_fit GetLog = refl
all_fit Security = refl
all_fit Acl = refl
all_fit Scope = refl
all_fit ReplyCommand = refl
all_fit ReplyBody = refl
all_fit ReplyRange = refl
all_fit ReplyGetLog = refl
all_fit Utilization = refl
all_fit Temperature = refl
all_fit Capacity = refl
all_fit Limits = refl
all_fit Status = refl

both : (s t : Bool) → cond s t false ≡ true → (s ≡ true) × (t ≡ true)
both true t e = (refl, e)
both false t e = let z : ◌≡◌ {A = ℕ} 0 1 = cc in absurd (omega arith)

-- of every row, so of every number
look-fits : (p : Kind → Bool) (n : ℕ) (t : Table) → rows_fit p t ≡ true → rule_fits p (look n t) ≡ true
look-fits p n end h = refl
look-fits p n (row m r t) h = let i = both (rule_fits p r) (rows_fit p t) h in go (eqb n m) i.0 (look-fits p n t i.1)
  where
    go : (b : Bool) → rule_fits p r ≡ true → rule_fits p (look n t) ≡ true → rule_fits p (cond b r (look n t)) ≡ true
    go true h g = h
    go false h g = g

-- a level holds only messages that pass the test ---------------------------------------------------------------------

module _ (p : Kind → Bool) where
  abbrev Fits : Content → Type 0
  Fits (c_int v) = Unit {0}
  Fits (c_raw b) = Unit {0}
  Fits (c_fix b) = Unit {0}
  Fits (c_msg k b) = p k ≡ true

  abbrev FitsO : Option Content → Type 0
  FitsO none = Unit {0}
  FitsO (some c) = Fits c

  abbrev All : List Item → Type 0
  All [] = Unit {0}
  All (item n c ∷ is) = Fits c × All is

  abbrev AllO : Option (List Item) → Type 0
  AllO none = Unit {0}
  AllO (some is) = All is

  guard-fits : (t : Bool) (v : ℕ) → FitsO (guard t (c_int v))
  guard-fits true v = tt
  guard-fits false v = tt

  int-fits : (f : Form) (v : ℕ) → FitsO (of_int f v)
  int-fits Int64 v = tt
  int-fits Int32 v = guard-fits (is_int32 v) v
  int-fits (Named e) v = guard-fits (among v (names_of e)) v
  int-fits Flag v = tt
  int-fits Bytes v = tt
  int-fits Opaque v = tt
  int-fits Float v = tt
  int-fits (Nested k) v = tt

  bytes-fits : (f : Form) (b : List ℕ) → form_fits p f ≡ true → FitsO (of_bytes f b)
  bytes-fits Int64 b h = tt
  bytes-fits Int32 b h = tt
  bytes-fits (Named e) b h = tt
  bytes-fits Flag b h = tt
  bytes-fits Bytes b h = tt
  bytes-fits Opaque b h = tt
  bytes-fits Float b h = tt
  bytes-fits (Nested k) b h = h

  fixed-fits : (f : Form) (b : List ℕ) → FitsO (of_fixed f b)
  fixed-fits Int64 b = tt
  fixed-fits Int32 b = tt
  fixed-fits (Named e) b = tt
  fixed-fits Flag b = tt
  fixed-fits Bytes b = tt
  fixed-fits Opaque b = tt
  fixed-fits Float b = tt
  fixed-fits (Nested k) b = tt

  decode-fits : (f : Form) (v : Value) → form_fits p f ≡ true → FitsO (decode f v)
  decode-fits f (vint v) h = int-fits f v
  decode-fits f (v64 b) h = tt
  decode-fits f (vlen b) h = bytes-fits f b h
  decode-fits f (v32 b) h = fixed-fits f b

  all_snoc : (is : List Item) (n : ℕ) (c : Content) → All is → Fits c → All (is ++ (item n c ∷ []))
  all_snoc [] n c h g = (g, tt)
  all_snoc (item m d ∷ is) n c h g = (h.0, all_snoc is n c h.1 g)

  all-add : (n : ℕ) (acc : List Item) (o : Option Content) → All acc → FitsO o → AllO (add n acc o)
  all-add n acc none h g = tt
  all-add n acc (some c) h g = all_snoc acc n c h g

  all-unless : (t : Bool) (o : Option (List Item)) → AllO o → AllO (cond t none o)
  all-unless true o h = tt
  all-unless false o h = h

  all-rule : (r : Rule) (st : Bool) (n : ℕ) (v : Value) (acc : List Item) → rule_fits p r ≡ true → All acc → AllO (by_rule r st n v acc)
  all-rule Unlisted st n v acc h a = all-unless st (some acc) a
  all-rule Refused st n v acc h a = tt
  all-rule (Single f) st n v acc h a = all-add n acc (decode f v) a (decode-fits f v h)
  all-rule (Once f) st n v acc h a = all-unless (is_some (find n acc)) (add n acc (decode f v)) (all-add n acc (decode f v) a (decode-fits f v h))
  all-rule (Repeated f) st n v acc h a = all-add n acc (decode f v) a (decode-fits f v h)

  all-step : (k : Kind) (f : Field) (acc : List Item) → rows_fit p (table_of k) ≡ true → All acc → AllO (step k f acc)
  all-step k (field n v) acc h a = all-rule (rule_of k n) (strict_of k) n v acc (look-fits p n (table_of k) h) a

  all_then : (o : Option (List Item)) (g : List Item → Option (List Item)) → AllO o → ((is : List Item) → All is → AllO (g is)) → AllO (then_o o g)
  all_then none g h f = tt
  all_then (some is) g h f = f is h

  all-items : (k : Kind) (fs : List Field) (acc : List Item) → rows_fit p (table_of k) ≡ true → All acc → AllO (items k fs acc)
  unfolding items
  all-items k [] acc h a = a
  all-items k (f ∷ fs) acc h a = all_then (step k f acc) (λ x. items k fs x) (all-step k f acc h a) (λ x q. all-items k fs x h q)

  all-items_o : (k : Kind) (o : Option (List Field)) (acc : List Item) → rows_fit p (table_of k) ≡ true → All acc → AllO (items_o k o acc)
  all-items_o k none acc h a = tt
  all-items_o k (some fs) acc h a = all-items k fs acc h a

  all-level : (k : Kind) (m : List ℕ) → rows_fit p (table_of k) ≡ true → AllO (level k m)
  unfolding level
  all-level k m h = all-items_o k (fields_of m) [] h tt

  -- so it opens alike by two functions that agree on them
  module _ (f g : Kind → List ℕ → Option Tree) (h : (k : Kind) (b : List ℕ) → p k ≡ true → f k b ≡ g k b) where
    open-one : (n : ℕ) (c : Content) (t : Tree) → Fits c → open_one f n c t ≡ open_one g n c t
    open-one n (c_int v) t l = refl
    open-one n (c_raw b) t l = refl
    open-one n (c_fix b) t l = refl
    open-one n (c_msg k b) t l = ap (map_o (λ s. sub n s t)) (h k b l)

    open-all : (is : List Item) → All is → open_all f is ≡ open_all g is
    unfolding open_all
    open-all [] a = refl
    open-all (item n c ∷ is) a =
        ap (λ o. then_o o (λ t. open_one f n c t)) (open-all is a.1) ∙ ap (λ w. then_o (open_all g is) w) (fun_ext (λ t. open-one n c t a.0))

    open-all_o : (o : Option (List Item)) → AllO o → then_o o (λ is. open_all f is) ≡ then_o o (λ is. open_all g is)
    open-all_o none a = refl
    open-all_o (some is) a = open-all is a

-- a greater allowance reads the same -----------------------------------------------------------------------------------

deeper : (d e : ℕ) (k : Kind) (m : List ℕ) → fits_in d k ≡ true → d ≤ e → listed_in e k m ≡ listed_in d k m
unfolding fits_in listed_in
deeper zero e k m h l = let z : ◌≡◌ {A = ℕ} 0 1 = cc in absurd (omega arith)
deeper (suc d) zero k m h l = absurd (omega arith)
deeper (suc d) (suc e) k m h l =
    open-all_o (λ k'. fits_in d k') (λ k' b. listed_in e k' b) (λ k' b. listed_in d k' b) (λ k' b q. deeper d e k' b q (omega arith)) (level k m)
    (all-level (λ k'. fits_in d k') k m h)

pub listed-deeper : (d : ℕ) (k : Kind) (m : List ℕ) → 5 ≤ d → listed_in d k m ≡ listed k m
unfolding listed
listed-deeper d k m l = deeper 5 d k m (all_fit k) l

-- a message says what its level holds, each message inside read in the same way: no depth allowance is seen
pub listed-opens : (k : Kind) (m : List ℕ) → listed k m ≡ then_o (level k m) (λ is. open_all (λ k' b. listed k' b) is)
unfolding listed listed_in
listed-opens k m = sym (listed-deeper 6 k m (omega arith))
