-- A field can go in at every field boundary, at every depth.
use Prim.Native.Nat.{ℕ, zero, suc, ◌+◌, ◌*◌, ◌^◌, ◌≤◌, ◌<◌}
use Rattle.std.proofs.Common.{arith, ◌∙◌, subst, length-append}
use Rattle.std.proofs.Math.Path.{◌≡◌, refl, sym, ap, subst₂}
use mathlib.Core.List.{List, [], ◌∷◌, ◌++◌, append_assoc}
use Rattle.std.proofs.Math.Option.{Option, none, some}
use Rattle.std.specs.Prelude.{length}
use Rattle.fields_wire.specs.Reader.{Got, nothing, got}
use Rattle.fields_wire.specs.Wire.{Value, Field, field, read_field, cons_o, then_fields, fields_in, fields_of, Framed}
use Rattle.fields_schema.specs.Rules.{rule_of}
use Rattle.fields_schema.specs.PutIn.{in_security, Replaces, PutIn}
use Rattle.fields_schema.proofs.FrontLaws.{field-front, framed-other, framed-length}
use Rattle.fields_schema.specs.declared.Kind.{Kind}
use Rattle.fields_schema.specs.declared.Rule.TheVariants.{Unlisted}
use Rattle.fields_schema.specs.Boundaries.{PutAt, here, inside, Boundary, around, Taken}

cons-some : (f : Field) (o : Option (List Field)) {fs : List Field} → cons_o f o ≡ some fs → (gs : List Field) × (o ≡ some gs)
cons-some f none e = let z : ◌≡◌ {A = ℕ} 0 1 = cc in absurd (omega arith)
cons-some f (some gs) e = (gs, refl)

module _ (R : Replaces) where
  stay-in : (n : ℕ) (a : List ℕ) {fs : List Field} → fields_in n a ≡ some fs → {k : Kind} {c : ℕ} {m m' : List ℕ} → PutIn R k c m m'
      → PutIn R k c (a ++ m) (a ++ m')
  unfolding fields_in
  stay-in zero [] e p = p
  stay-in zero (y ∷ a) e p = let z : ◌≡◌ {A = ℕ} 0 1 = cc in absurd (omega arith)
  stay-in (suc n) [] e p = p
  stay-in (suc n) (y ∷ a) {fs} e {k} {c} {m} {m'} p = go (read_field (y ∷ a)) refl e (λ r gs q. stay-in n r {fs = gs} q p)
    where
      go : (o : Got Field) → read_field (y ∷ a) ≡ o → then_fields o (λ r. fields_in n r) ≡ some fs
          → ((r : List ℕ) (gs : List Field) → fields_in n r ≡ some gs → PutIn R k c (r ++ m) (r ++ m')) → PutIn R k c ((y ∷ a) ++ m) ((y ∷ a) ++ m')
      go nothing q h ih = let z : ◌≡◌ {A = ℕ} 0 1 = cc in absurd (omega arith)
      go (got f r) q h ih =
          let i = cons-some f (fields_in n r) h in
          let x = field-front (y ∷ a) q in
          let s : (l : List ℕ) → x.0 ++ (r ++ l) ≡ (y ∷ a) ++ l = λ l. sym (append_assoc x.0 r l) ∙ ap (λ t. t ++ l) (sym x.1) in
          subst₂ (PutIn R k c) (s m) (s m') (PutIn.keep f x.2 x.2 (ih r i.0 i.1))

  -- whole fields stay as they stand
  pub fields-stay : (a : List ℕ) {fs : List Field} → fields_of a ≡ some fs → {k : Kind} {c : ℕ} {m m' : List ℕ} → PutIn R k c m m'
      → PutIn R k c (a ++ m) (a ++ m')
  unfolding fields_of
  fields-stay a e p = stay-in (length a) a e p

  -- at a boundary, whatever else is put in after it
  pub put-in-front : (a : List ℕ) {fs : List Field} → fields_of a ≡ some fs → {k : Kind} {x : List ℕ} (n : ℕ) (v : Value) → Framed (field n v) x
      → rule_of k n ≡ Unlisted → {c : ℕ} {m m' : List ℕ} → PutIn R k c m m' → PutIn R k (in_security k + c) (a ++ m) (a ++ (x ++ m'))
  put-in-front a e n v h u p = fields-stay a e (PutIn.put n v h u p)

  no_more : (j k : Kind) {m m' : List ℕ} → PutIn R k (in_security j + 0) m m' → PutIn R k (in_security j) m m'
  no_more j k {m} {m'} p = let e : in_security j + 0 ≡ in_security j = omega arith in subst (λ c. PutIn R k c m m') e p

  -- EVERY BOUNDARY: an unlisted field at any boundary at any depth is put in
  pub put-in-anywhere : {y : List ℕ} {j k : Kind} {m m' : List ℕ} (n : ℕ) (v : Value) → Framed (field n v) y → rule_of j n ≡ Unlisted → PutAt y j k m m'
      → PutIn R k (in_security j) m m'
  put-in-anywhere {y} {j} n v h u (here a r e) = no_more j j (put-in-front a e n v h u (PutIn.same j r))
  put-in-anywhere {y} {j} {k} n v h u (inside a r e i k' b b' g g' l q) =
      no_more j k (fields-stay a e (PutIn.inside i k' b b' g g' l (put-in-anywhere n v h u q) (PutIn.same k r)))

-- there is one at every boundary -------------------------------------------------------------------------------------------

-- any bytes go in there; the lengths fit where the message does
pub boundary-takes : {j k : Kind} {m : List ℕ} (y : List ℕ) (p : Boundary j k m) → length m + length y + 20 * around p < 2 ^ 64 → Taken y p
boundary-takes y (here a r e) l =
    record { message = a ++ (y ++ r); put = record { at = PutAt.here a r e; there = refl }; long = omega (arith, length-append a (y ++ r), length-append y r, length-append a r) }
boundary-takes y (inside {x = x} a r e n k' b h g p) l =
    let all : (z : List ℕ) → length (a ++ (z ++ r)) ≡ length a + (length z + length r) =
    λ z. length-append a (z ++ r) ∙ ap (λ i. length a + i) (length-append z r) in
    let s = framed-length h in
    let t = boundary-takes y p (omega (arith, all x)) in
    let o = framed-other t.message h (omega (arith, all x, t.long)) in
    record {
      message = a ++ (o.0 ++ r);
      put = record { at = PutAt.inside a r e n k' b t.message h o.1 g t.put.at; there = ap (λ q. Boundary.inside a r e n k' b h g q) t.put.there };
      long = longer (length a) (length x) (length o.0) (length r) (length b) (length t.message) (around p) (length y) (all x) (all o.0) t.long o.2 s;
    }
  where
    longer : (a x x' r b b' d y : ℕ) {m m' : ℕ} → m ≡ a + (x + r) → m' ≡ a + (x' + r) → b' ≤ b + y + 20 * d → x' ≤ 20 + b' → b ≤ x
        → m' ≤ m + y + 20 * suc d
    longer a x x' r b b' d y p q l t s = omega arith
