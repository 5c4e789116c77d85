-- The computed test says that a tree fits exactly where it does.
use Rattle.std.specs.Prelude.{ℕ, ◌^◌, ◌≡◌, refl, List, [], ◌∷◌, Bool, true, false, ◌&&◌, length, ltb, leb, eqb}
use Rattle.std.proofs.Common.{ap, ◌∙◌, ltb-true, leb-true, eqb-true, lt-ltb, le-leb, eq-eqb}
use Rattle.std.proofs.Math.Option.{Option, none, some}
use Rattle.fields_wire.specs.Wire.{vint, vlen, v32}
use Rattle.fields_schema.specs.Rules.{rule_of}
use Rattle.fields_schema.specs.Tree.{among, Content, c_int, c_raw, c_fix, c_msg, Tree, done, int, raw, fix, sub}
use Rattle.fields_encoding.proofs.BasicLaws.{never}
use Rattle.fields_encoding.specs.Encode.{encode, FieldNumber, says, FitsAfter, ends, ints, raws, fixs, subs}
use Rattle.fields_encoding.proofs.DepthLaws.{says-message}
use Rattle.fields_encoding.specs.FitsTest.{is_field_number, equal, says_int, says_raw, says_fix, says_message, is_fit}
use Rattle.fields_schema.specs.declared.Kind.{Kind}

both_true : (s t : Bool) → (s && t) ≡ true → (s ≡ true) × (t ≡ true)
both_true true t h = (refl, h)
both_true false t h = never (cc)

is_number : (n : ℕ) → is_field_number n ≡ true → FieldNumber n
is_number n h = let b = both_true (leb 1 n) (ltb n (2 ^ 29)) h in record { above = leb-true 1 n b.0; below = ltb-true n (2 ^ 29) b.1 }

number_is : (n : ℕ) → FieldNumber n → is_field_number n ≡ true
number_is n h = rw (le-leb 1 n h.above, lt-ltb n (2 ^ 29) h.below)

equal-true : (a b : List ℕ) → equal a b ≡ true → a ≡ b
equal-true [] [] h = refl
equal-true [] (c ∷ b) h = never (cc)
equal-true (c ∷ a) [] h = never (cc)
equal-true (c ∷ a) (d ∷ b) h =
    let e = both_true (eqb c d) (equal a b) h in
    let x = eqb-true c d e.0 in
    let y = equal-true a b e.1 in
    cc

equal-same : (a : List ℕ) → equal a a ≡ true
equal-same [] = refl
equal-same (c ∷ a) = rw (eq-eqb c c refl) (equal-same a)

int-true : (o : Option Content) (v : ℕ) → says_int o v ≡ true → o ≡ some (c_int v)
int-true none v h = never (cc)
int-true (some (c_int w)) v h = ap (λ n. some (c_int n)) (eqb-true w v h)
int-true (some (c_raw b)) v h = never (cc)
int-true (some (c_fix b)) v h = never (cc)
int-true (some (c_msg k b)) v h = never (cc)

raw-true : (o : Option Content) (b : List ℕ) → says_raw o b ≡ true → o ≡ some (c_raw b)
raw-true none b h = never (cc)
raw-true (some (c_int w)) b h = never (cc)
raw-true (some (c_raw c)) b h = ap (λ l. some (c_raw l)) (equal-true c b h)
raw-true (some (c_fix c)) b h = never (cc)
raw-true (some (c_msg k c)) b h = never (cc)

fix-true : (o : Option Content) (b : List ℕ) → says_fix o b ≡ true → o ≡ some (c_fix b)
fix-true none b h = never (cc)
fix-true (some (c_int w)) b h = never (cc)
fix-true (some (c_raw c)) b h = never (cc)
fix-true (some (c_fix c)) b h = ap (λ l. some (c_fix l)) (equal-true c b h)
fix-true (some (c_msg k c)) b h = never (cc)

message-true : (o : Option Content) (test : Kind → Bool) → says_message o test ≡ true → (k : Kind) × (c : List ℕ) × (o ≡ some (c_msg k c)) × (test k ≡ true)
message-true none test h = never (cc)
message-true (some (c_int w)) test h = never (cc)
message-true (some (c_raw c)) test h = never (cc)
message-true (some (c_fix c)) test h = never (cc)
message-true (some (c_msg k c)) test h = (k, c, refl, h)

pub test_fits : (k : Kind) (ns : List ℕ) (t : Tree) → is_fit k ns t ≡ true → FitsAfter k ns t
unfolding is_fit
test_fits k ns done h = ends
test_fits k ns (int n v t) h =
    let a = both_true (is_field_number n) _ h in
    let b = both_true (ltb v (2 ^ 64)) _ a.1 in
    let c = both_true (says_int (says (rule_of k n) (among n ns) (vint v)) v) (is_fit k (n ∷ ns) t) b.1 in
    ints (is_number n a.0) (ltb-true v (2 ^ 64) b.0) (int-true _ v c.0) (test_fits k (n ∷ ns) t c.1)
test_fits k ns (raw n r t) h =
    let a = both_true (is_field_number n) _ h in
    let b = both_true (ltb (length r) (2 ^ 64)) _ a.1 in
    let c = both_true (says_raw (says (rule_of k n) (among n ns) (vlen r)) r) (is_fit k (n ∷ ns) t) b.1 in
    raws (is_number n a.0) (ltb-true (length r) (2 ^ 64) b.0) (raw-true _ r c.0) (test_fits k (n ∷ ns) t c.1)
test_fits k ns (fix n r t) h =
    let a = both_true (is_field_number n) _ h in
    let b = both_true (eqb (length r) 4) _ a.1 in
    let c = both_true (says_fix (says (rule_of k n) (among n ns) (v32 r)) r) (is_fit k (n ∷ ns) t) b.1 in
    fixs (is_number n a.0) (eqb-true (length r) 4 b.0) (fix-true _ r c.0) (test_fits k (n ∷ ns) t c.1)
test_fits k ns (sub n s t) h =
    let o = says (rule_of k n) (among n ns) (vlen (encode s)) in
    let a = both_true (is_field_number n) _ h in
    let b = both_true (ltb (length (encode s)) (2 ^ 64)) _ a.1 in
    let c = both_true (says_message o (λ k'. is_fit k' [] s)) (is_fit k (n ∷ ns) t) b.1 in
    let m = message-true o (λ k'. is_fit k' [] s) c.0 in
    let e = says-message k n (among n ns) m.0 (encode s) m.1 m.2 in
    subs m.0 (is_number n a.0) (ltb-true (length (encode s)) (2 ^ 64) b.0) (m.2 ∙ ap (λ l. some (c_msg m.0 l)) e.1)
    (test_fits m.0 [] s m.3) (test_fits k (n ∷ ns) t c.1)

pub fits-test : {k : Kind} {ns : List ℕ} {t : Tree} → FitsAfter k ns t → is_fit k ns t ≡ true
unfolding is_fit
fits-test ends = refl
fits-test (ints {n = n} {v = v} h l g r) = rw (number_is n h, lt-ltb v (2 ^ 64) l, g, eq-eqb v v refl) (fits-test r)
fits-test (raws {n = n} {b = b} h l g r) = rw (number_is n h, lt-ltb (length b) (2 ^ 64) l, g, equal-same b) (fits-test r)
fits-test (fixs {n = n} {b = b} h l g r) = rw (number_is n h, eq-eqb (length b) 4 l, g, equal-same b) (fits-test r)
fits-test (subs {n = n} {s = s} k' h l g q r) = rw (number_is n h, lt-ltb (length (encode s)) (2 ^ 64) l, g, fits-test q) (fits-test r)
