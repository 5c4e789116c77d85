-- Fields put into a message, in the words of document 01, "What the proofs owe the reader": "field boundaries are before, between and after the
-- fields of Message, each HMACauth, the Command … and each listed m in it at any depth; in bytes not looked into, any place".
use Rattle.std.specs.Prelude.{ℕ, ◌+◌, ◌≡◌, List, ◌++◌}
use Rattle.std.proofs.Math.Option.{Option, none, some}
use Rattle.fields_wire.specs.Wire.{Value, vlen, Field, field, Framed}
use Rattle.fields_schema.specs.Rules.{rule_of}
use Rattle.fields_schema.specs.Tree.{Tree, done, int, raw, fix, sub}
use Rattle.fields_schema.specs.declared.Kind.{Kind}
use Rattle.fields_schema.specs.declared.Kind.TheVariants.{Message, HmacAuth, Command, Header, Body, KeyValue, Range, Setup, GetLog, Security, Acl, Scope, ReplyCommand, ReplyBody, ReplyRange, ReplyGetLog, Utilization, Temperature, Capacity, Limits, Status}
use Rattle.fields_schema.specs.declared.Form.{Form}
use Rattle.fields_schema.specs.declared.Form.TheVariants.{Bytes, Opaque, Nested}
use Rattle.fields_schema.specs.declared.Rule.{Rule}
use Rattle.fields_schema.specs.declared.Rule.TheVariants.{Unlisted, Refused, Once, Single, Repeated}

-- a listed field of this form
abbrev pub Has : Form → Rule → Type 0
Has f Unlisted = ⊥
Has f Refused = ⊥
Has f (Once g) = f ≡ g
Has f (Single g) = f ≡ g
Has f (Repeated g) = f ≡ g

-- x is one whole field of the number n that holds the bytes b; "lengths take any form allowed"
abbrev pub Holds : ℕ → List ℕ → List ℕ → Type 0
Holds n b x = Framed (field n (vlen b)) x

-- 1 for the security part: "inside Security, ACL and Scope". Written out here and not taken from the table
abbrev pub in_security : Kind → ℕ
in_security Message = 0
in_security HmacAuth = 0
in_security Command = 0
in_security Header = 0
in_security Body = 0
in_security KeyValue = 0
in_security Range = 0
in_security Setup = 0
in_security GetLog = 0
in_security Security = 1
in_security Acl = 1
in_security Scope = 1
in_security ReplyCommand = 0
in_security ReplyBody = 0
in_security ReplyRange = 0
in_security ReplyGetLog = 0
in_security Utilization = 0
in_security Temperature = 0
in_security Capacity = 0
in_security Limits = 0
in_security Status = 0

-- R k n b b': in a message of kind k the bytes b of the listed field n may be replaced by b'
abbrev pub Replaces : Type 1
Replaces = Kind → ℕ → List ℕ → List ℕ → Type 0

-- no listed bytes are replaced
abbrev pub Nothing : Replaces
Nothing k n b b' = ⊥

module _ (R : Replaces) where
  -- m' is the message m of kind k with well-framed unlisted fields put in, c of them inside the security part, the enclosing lengths corrected and the
  -- contents not looked into changed; and with listed bytes replaced as R allows
  pub data PutIn : Kind → ℕ → List ℕ → List ℕ → Type 0 where
    -- from here on all is the same
    same : (k : Kind) (m : List ℕ) → PutIn k 0 m m
    -- a field is put in here, with a number that is not listed in this kind
    put : {k : Kind} {c : ℕ} {m m' x : List ℕ} (n : ℕ) (v : Value) → Framed (field n v) x → rule_of k n ≡ Unlisted → PutIn k c m m'
        → PutIn k (in_security k + c) m (x ++ m')
    -- a field stays
    keep : {k : Kind} {c : ℕ} {m m' x x' : List ℕ} (f : Field) → Framed f x → Framed f x' → PutIn k c m m' → PutIn k c (x ++ m) (x' ++ m')
    -- a listed message into which fields are put
    inside : {k : Kind} {c d : ℕ} {m m' x x' : List ℕ} (n : ℕ) (k' : Kind) (b b' : List ℕ) → Holds n b x → Holds n b' x' → Has (Nested k') (rule_of k n)
        → PutIn k' c b b' → PutIn k d m m' → PutIn k (c + d) (x ++ m) (x' ++ m')
    -- listed bytes not looked into
    hidden : {k : Kind} {c : ℕ} {m m' x x' : List ℕ} (n : ℕ) (b b' : List ℕ) → Holds n b x → Holds n b' x' → Has Opaque (rule_of k n) → PutIn k c m m'
        → PutIn k c (x ++ m) (x' ++ m')
    -- the contents of an unlisted field of wire type 2
    skipped : {k : Kind} {c : ℕ} {m m' x x' : List ℕ} (n : ℕ) (b b' : List ℕ) → Holds n b x → Holds n b' x' → rule_of k n ≡ Unlisted → PutIn k c m m'
        → PutIn k c (x ++ m) (x' ++ m')
    -- listed bytes replaced
    replaced : {k : Kind} {c : ℕ} {m m' x x' : List ℕ} (n : ℕ) (b b' : List ℕ) → Holds n b x → Holds n b' x' → Has Bytes (rule_of k n) → R k n b b'
        → PutIn k c m m' → PutIn k c (x ++ m) (x' ++ m')

  -- two trees of kind k that are equal but for listed bytes replaced as R allows
  pub data EqualBut : Kind → Tree → Tree → Type 0 where
    dones : (k : Kind) → EqualBut k done done
    ints : {k : Kind} {t t' : Tree} (n v : ℕ) → EqualBut k t t' → EqualBut k (int n v t) (int n v t')
    raws : {k : Kind} {t t' : Tree} (n : ℕ) (b : List ℕ) → EqualBut k t t' → EqualBut k (raw n b t) (raw n b t')
    fixs : {k : Kind} {t t' : Tree} (n : ℕ) (b : List ℕ) → EqualBut k t t' → EqualBut k (fix n b t) (fix n b t')
    replaced : {k : Kind} {t t' : Tree} (n : ℕ) (b b' : List ℕ) → R k n b b' → EqualBut k t t' → EqualBut k (raw n b t) (raw n b' t')
    equal : {k : Kind} {t t' : Tree} (n : ℕ) (u : Tree) → EqualBut k t t' → EqualBut k (sub n u t) (sub n u t')
    subs : {k : Kind} {t t' u u' : Tree} (n : ℕ) (k' : Kind) → Has (Nested k') (rule_of k n) → EqualBut k' u u' → EqualBut k t t'
        → EqualBut k (sub n u t) (sub n u' t')

  -- the same of two answers: both nothing, or both a tree
  pub data EqualButO (k : Kind) : Option Tree → Option Tree → Type 0 where
    nones : EqualButO k none none
    somes : {t t' : Tree} → EqualBut k t t' → EqualButO k (some t) (some t')
