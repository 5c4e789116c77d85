-- A computed test that says whether a tree fits a kind.
use Rattle.std.specs.Prelude.{ℕ, ◌^◌, List, [], ◌∷◌, Bool, true, false, ◌&&◌, length, ltb, leb, eqb}
use Rattle.std.proofs.Math.Option.{Option, none, some}
use Rattle.fields_wire.specs.Wire.{vint, vlen, v32}
use Rattle.fields_schema.specs.Rules.{rule_of}
use Rattle.fields_schema.specs.Tree.{among, Content, c_int, c_raw, c_fix, c_msg, Tree, done, int, raw, fix, sub}
use Rattle.fields_encoding.specs.Encode.{encode, says}
use Rattle.fields_schema.specs.declared.Kind.{Kind}

abbrev pub is_field_number : ℕ → Bool
is_field_number n = leb 1 n && ltb n (2 ^ 29)

abbrev pub equal : List ℕ → List ℕ → Bool
equal [] [] = true
equal [] (b ∷ bs) = false
equal (a ∷ as') [] = false
equal (a ∷ as') (b ∷ bs) = eqb a b && equal as' bs

abbrev pub says_int : Option Content → ℕ → Bool
says_int none v = false
says_int (some (c_int w)) v = eqb w v
says_int (some (c_raw b)) v = false
says_int (some (c_fix b)) v = false
says_int (some (c_msg k b)) v = false

abbrev pub says_raw : Option Content → List ℕ → Bool
says_raw none b = false
says_raw (some (c_int v)) b = false
says_raw (some (c_raw c)) b = equal c b
says_raw (some (c_fix c)) b = false
says_raw (some (c_msg k c)) b = false

abbrev pub says_fix : Option Content → List ℕ → Bool
says_fix none b = false
says_fix (some (c_int v)) b = false
says_fix (some (c_raw c)) b = false
says_fix (some (c_fix c)) b = equal c b
says_fix (some (c_msg k c)) b = false

-- a message, of a kind that passes the test
abbrev pub says_message : Option Content → (Kind → Bool) → Bool
says_message none test = false
says_message (some (c_int v)) test = false
says_message (some (c_raw c)) test = false
says_message (some (c_fix c)) test = false
says_message (some (c_msg k c)) test = test k

unfoldable pub is_fit : Kind → List ℕ → Tree → Bool
is_fit k ns done = true
is_fit k ns (int n v t) =
    is_field_number n && (ltb v (2 ^ 64) && (says_int (says (rule_of k n) (among n ns) (vint v)) v && is_fit k (n ∷ ns) t))
is_fit k ns (raw n b t) =
    is_field_number n && (ltb (length b) (2 ^ 64) && (says_raw (says (rule_of k n) (among n ns) (vlen b)) b && is_fit k (n ∷ ns) t))
is_fit k ns (fix n b t) =
    is_field_number n && (eqb (length b) 4 && (says_fix (says (rule_of k n) (among n ns) (v32 b)) b && is_fit k (n ∷ ns) t))
is_fit k ns (sub n s t) =
    is_field_number n && (ltb (length (encode s)) (2 ^ 64) &&
    (says_message (says (rule_of k n) (among n ns) (vlen (encode s))) (λ k'. is_fit k' [] s) && is_fit k (n ∷ ns) t))
