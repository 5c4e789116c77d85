-- The algorithm of a command that decodes is at most 6: "algorithm (1 to 6)", and an absent one is 0.
use Rattle.std.specs.Prelude.{ℕ, ◌≤◌, ◌≡◌, refl, List, [], ◌∷◌, Bool, true, false, cond, eqb}
use Rattle.std.proofs.Common.{arith, sym, ap, ◌∙◌, subst, eqb-true}
use Rattle.std.proofs.Math.Option.{Option, none, some}
use Rattle.base_definitions.specs.Options.{or_else}
use Rattle.fields_wire.specs.Wire.{vint, vlen}
use Rattle.fields_schema.specs.Rules.{names_of, rule_of}
use Rattle.fields_schema.specs.Tree.{map_o, guard, among, c_int, c_msg, later, Tree, done, int, raw, fix, sub, join, join_o, int_at, sub_at, listed}
use Rattle.fields_schema.proofs.OptionLaws.{then_some, guard-some}
use Rattle.fields_schema.specs.declared.Kind.{Kind}
use Rattle.fields_schema.specs.declared.Kind.TheVariants.{Command, Body, KeyValue}
use Rattle.fields_schema.specs.declared.Names.TheVariants.{Algorithm}
use Rattle.fields_schema.specs.declared.Form.TheVariants.{Nested}
use Rattle.fields_schema.specs.declared.Rule.{Rule}
use Rattle.fields_schema.specs.declared.Rule.TheVariants.{Single}
use Rattle.fields_encoding.proofs.BasicLaws.{never}
use Rattle.fields_encoding.specs.Encode.{encode, says, FitsAfter, ends, ints, raws, fixs, subs}
use Rattle.fields_encoding.proofs.CanonicalLaws.{listed-fits}
use Rattle.protocol.specs.Command.{key_value_of, body_of, command_of, no_body}
use Rattle.protocol.specs.Reading.{security_once, decodes}
use Rattle.protocol.specs.Judge.{no_key_value, key_value_in}

-- every number, every message of a tree that stands under a field number
abbrev EachInt : ℕ → (ℕ → Type 0) → Tree → Type 0
EachInt n P done = Unit {0}
EachInt n P (int m v t) = (m ≡ n → P v) × EachInt n P t
EachInt n P (raw m b t) = EachInt n P t
EachInt n P (fix m b t) = EachInt n P t
EachInt n P (sub m s t) = EachInt n P t

abbrev EachSub : ℕ → (Tree → Type 0) → Tree → Type 0
EachSub n P done = Unit {0}
EachSub n P (int m v t) = EachSub n P t
EachSub n P (raw m b t) = EachSub n P t
EachSub n P (fix m b t) = EachSub n P t
EachSub n P (sub m s t) = (m ≡ n → P s) × EachSub n P t

-- two that are merged have it where both have
int-join : (n : ℕ) (P : ℕ → Type 0) (s t : Tree) → EachInt n P s → EachInt n P t → EachInt n P (join s t)
int-join n P done t h k = k
int-join n P (int m v s) t h k = (h.0, int-join n P s t h.1 k)
int-join n P (raw m b s) t h k = int-join n P s t h k
int-join n P (fix m b s) t h k = int-join n P s t h k
int-join n P (sub m u s) t h k = int-join n P s t h k

sub-join : (n : ℕ) (P : Tree → Type 0) (s t : Tree) → EachSub n P s → EachSub n P t → EachSub n P (join s t)
sub-join n P done t h k = k
sub-join n P (int m v s) t h k = sub-join n P s t h k
sub-join n P (raw m b s) t h k = sub-join n P s t h k
sub-join n P (fix m b s) t h k = sub-join n P s t h k
sub-join n P (sub m u s) t h k = (h.0, sub-join n P s t h.1 k)

-- so what a look-up finds has it
int_at_lem : (n : ℕ) (P : ℕ → Type 0) (t : Tree) {v : ℕ} → EachInt n P t → int_at n t ≡ some v → P v
int_at_lem n P done h e = never (cc)
int_at_lem n P (int m w t) {v} h e = go (int_at n t) (eqb n m) refl (λ x q. int_at_lem n P t h.1 q) e
  where
    go : (o : Option ℕ) (b : Bool) → eqb n m ≡ b → ((x : ℕ) → o ≡ some x → P x) → later o (guard b w) ≡ some v → P v
    go none true z f q = let y : w ≡ v = cc in subst P y (h.0 (sym (eqb-true n m z)))
    go none false z f q = never (cc)
    go (some x) b z f q = let y : x ≡ v = cc in subst P y (f x refl)
int_at_lem n P (raw m b t) h e = int_at_lem n P t h e
int_at_lem n P (fix m b t) h e = int_at_lem n P t h e
int_at_lem n P (sub m s t) h e = int_at_lem n P t h e

sub_at_lem : (n : ℕ) (P : Tree → Type 0) → ((s t : Tree) → P s → P t → P (join s t)) → (t : Tree) {u : Tree} → EachSub n P t → sub_at n t ≡ some u → P u
sub_at_lem n P j done h e = never (cc)
sub_at_lem n P j (int m v t) h e = sub_at_lem n P j t h e
sub_at_lem n P j (raw m b t) h e = sub_at_lem n P j t h e
sub_at_lem n P j (fix m b t) h e = sub_at_lem n P j t h e
sub_at_lem n P j (sub m s t) {u} h e = go (sub_at n t) (eqb n m) refl (λ x q. sub_at_lem n P j t h.1 q) e
  where
    go : (o : Option Tree) (b : Bool) → eqb n m ≡ b → ((x : Tree) → o ≡ some x → P x) → join_o b s o ≡ some u → P u
    go o false z f q = f u q
    go none true z f q = let y : s ≡ u = cc in subst P y (h.0 (sym (eqb-true n m z)))
    go (some x) true z f q = let y : join s x ≡ u = cc in subst P y (j s x (h.0 (sym (eqb-true n m z))) (f x refl))

-- ---- by the table

abbrev Most : ℕ → List ℕ → Type 0
Most n [] = Unit {0}
Most n (m ∷ ms) = (m ≤ n) × Most n ms

among-most : (n v : ℕ) (ms : List ℕ) → Most n ms → among v ms ≡ true → v ≤ n
among-most n v [] h e = never (cc)
among-most n v (m ∷ ms) h e = go (eqb v m) refl (λ f. among-most n v ms h.1 f) e
  where
    go : (b : Bool) → eqb v m ≡ b → (among v ms ≡ true → v ≤ n) → cond b true (among v ms) ≡ true → v ≤ n
    go true q ih f = omega (arith, h.0, eqb-true v m q)
    go false q ih f = ih f

abbrev Six : Tree → Type 0
Six t = EachInt 6 (λ v. v ≤ 6) t

key-value-six : {ns : List ℕ} {t : Tree} → FitsAfter KeyValue ns t → Six t
key-value-six ends = record {}
key-value-six (ints {ns = ns} {n = n} {v = v} f w s r) =
    (λ e. six v (sym (ap (λ (n : ℕ). says (rule_of KeyValue n) (among n ns) (vint v)) e) ∙ s), key-value-six r)
  where
    six : (v : ℕ) → guard (among v (names_of Algorithm)) (c_int v) ≡ some (c_int v) → v ≤ 6
    six v q =
        among-most 6 v (names_of Algorithm) (omega arith, (omega arith, (omega arith, (omega arith, (omega arith, (omega arith, tt))))))
        (guard-some (among v (names_of Algorithm)) q).0
key-value-six (raws f w s r) = key-value-six r
key-value-six (fixs f w s r) = key-value-six r
key-value-six (subs k' f w s h r) = key-value-six r

-- a message inside a message, by the row of its number
module _ (k : Kind) (n : ℕ) (k₁ : Kind) (P : Tree → Type 0) (row : rule_of k n ≡ Single (Nested k₁)) (below : (s : Tree) → FitsAfter k₁ [] s → P s) where
  each_fits : {ns : List ℕ} {t : Tree} → FitsAfter k ns t → EachSub n P t
  each_fits ends = record {}
  each_fits (ints f w s r) = each_fits r
  each_fits (raws f w s r) = each_fits r
  each_fits (fixs f w s r) = each_fits r
  each_fits (subs {ns = ns} {n = m} {s = s} k' f w e h r) = (λ q. below s (inside q), each_fits r)
    where
      inside : m ≡ n → FitsAfter k₁ [] s
      inside q =
          let x : says (Single (Nested k₁)) (among m ns) (vlen (encode s)) ≡ some (c_msg k' (encode s)) =
          sym (ap (λ (u : Rule). says u (among m ns) (vlen (encode s))) (ap (rule_of k) q ∙ row)) ∙ e in
          let y : k' ≡ k₁ = cc in
          subst (λ (j : Kind). FitsAfter j [] s) y h

in_body : (t : Tree) → FitsAfter Body [] t → EachSub 1 Six t
in_body t f = each_fits Body 1 KeyValue Six refl (λ s g. key-value-six g) f

number : (o : Option ℕ) → ((v : ℕ) → o ≡ some v → v ≤ 6) → or_else 0 o ≤ 6
number none f = omega arith
number (some v) f = f v refl

pub key-value-most : (m : List ℕ) {t : Tree} → listed KeyValue m ≡ some t → or_else 0 (int_at 6 t) ≤ 6
key-value-most m {t} e = number (int_at 6 t) (λ v z. int_at_lem 6 (λ (v : ℕ). v ≤ 6) t (key-value-six (listed-fits KeyValue m t e)) z)

pub algorithm-most : (m : List ℕ) {t : Tree} → decodes m ≡ some t → (key_value_in (command_of t).body).algorithm ≤ 6
algorithm-most m {t} e =
    let l = then_some (listed Command m) _ e in
    let q : l.0 ≡ t = (guard-some (security_once l.0) l.2).1 in
    let c = each_fits Command 2 Body (EachSub 1 Six) refl in_body (listed-fits Command m t (l.1 ∙ ap some q)) in
    body (sub_at 2 t) (λ u z. sub_at_lem 2 (EachSub 1 Six) (sub-join 1 Six) t c z)
  where
    key-value : (o : Option Tree) → ((x : Tree) → o ≡ some x → Six x) → (or_else no_key_value (map_o key_value_of o)).algorithm ≤ 6
    key-value none f = omega arith
    key-value (some x) f = number (int_at 6 x) (λ v z. int_at_lem 6 (λ (v : ℕ). v ≤ 6) x (f x refl) z)

    body : (o : Option Tree) → ((u : Tree) → o ≡ some u → EachSub 1 Six u) → (key_value_in (or_else no_body (map_o body_of o))).algorithm ≤ 6
    body none f = omega arith
    body (some u) f = key-value (sub_at 1 u) (λ x z. sub_at_lem 1 Six (int-join 6 (λ (v : ℕ). v ≤ 6)) u (f u refl) z)
