-- Fields put in, and then further ones: again fields put in, the counts inside the security part added.
use Rattle.std.specs.Prelude.{ℕ, ◌+◌, ◌≡◌, refl, List, ◌++◌}
use Rattle.std.proofs.Common.{arith, sym, ap, ◌∙◌, subst}
use Rattle.fields_wire.specs.Reader.{Got, got}
use Rattle.fields_wire.specs.Wire.{Value, vlen, Field, field, read_field, Framed}
use Rattle.fields_wire.specs.WireLaws.{steady-field}
use Rattle.fields_schema.specs.Rules.{rule_of}
use Rattle.fields_schema.specs.PutIn.{Has, Holds, in_security, Replaces, PutIn}
use Rattle.fields_schema.proofs.LevelLaws.{one_form}
use Rattle.fields_schema.proofs.OptionLaws.{never}
use Rattle.fields_schema.specs.declared.Kind.{Kind}
use Rattle.fields_schema.specs.declared.Form.{Form}
use Rattle.fields_schema.specs.declared.Form.TheVariants.{Bytes, Opaque, Nested}
use Rattle.fields_schema.specs.declared.Rule.{Rule}
use Rattle.fields_schema.specs.declared.Rule.TheVariants.{Unlisted}

-- one field stands in front of some bytes, and one rest after it
front-field : {f g : Field} {x y r s : List ℕ} → Framed f x → Framed g y → x ++ r ≡ y ++ s → (f ≡ g) × (r ≡ s)
front-field {f} {g} {x} {y} {r} {s} h i e =
    let z : ◌≡◌ {A = Got Field} (got f r) (got g s) = sym (steady-field.more x r h.whole) ∙ ap read_field e ∙ steady-field.more y s i.whole in
    (cc, cc)

-- an unlisted field has no form
not_listed : {A : Type 0} {r : Rule} (f : Form) → r ≡ Unlisted → Has f r → A
not_listed f u h = absurd (subst (λ (r : Rule). Has f r) u h)

framed-as : {f g : Field} {x : List ℕ} → f ≡ g → Framed f x → Framed g x
framed-as {f} {g} {x} e h = subst (λ f. Framed f x) e h

numbered : {n n' : ℕ} {v v' : Value} → field n v ≡ field n' v' → (n ≡ n') × (v ≡ v')
numbered e = (cc, cc)

holding : {n n' : ℕ} {b b' : List ℕ} → field n (vlen b) ≡ field n' (vlen b') → (n ≡ n') × (b ≡ b')
holding e = (cc, cc)

module _ (R : Replaces) where
  counted : {k : Kind} {c d : ℕ} {m m' : List ℕ} → c ≡ d → PutIn R k c m m' → PutIn R k d m m'
  counted {k} {c} {d} {m} {m'} e p = subst (λ i. PutIn R k i m m') e p

  -- how the field g came to stand before the bytes r, as the message m was edited
  data Came (k : Kind) (g : Field) (r : List ℕ) : ℕ → List ℕ → Type 0 where
    put : {c : ℕ} {m : List ℕ} (n : ℕ) (v : Value) → g ≡ field n v → rule_of k n ≡ Unlisted → PutIn R k c m r → Came k g r (in_security k + c) m
    kept : {c : ℕ} {m x : List ℕ} → Framed g x → PutIn R k c m r → Came k g r c (x ++ m)
    inside : {c d : ℕ} {m x : List ℕ} (n : ℕ) (k' : Kind) (b b' : List ℕ) → g ≡ field n (vlen b') → Holds n b x → Has (Nested k') (rule_of k n) → PutIn R k' c b b' → PutIn R k d m r
        → Came k g r (c + d) (x ++ m)
    hidden : {c : ℕ} {m x : List ℕ} (n : ℕ) (b b' : List ℕ) → g ≡ field n (vlen b') → Holds n b x → Has Opaque (rule_of k n) → PutIn R k c m r → Came k g r c (x ++ m)
    skipped : {c : ℕ} {m x : List ℕ} (n : ℕ) (b b' : List ℕ) → g ≡ field n (vlen b') → Holds n b x → rule_of k n ≡ Unlisted → PutIn R k c m r → Came k g r c (x ++ m)
    replaced : {c : ℕ} {m x : List ℕ} (n : ℕ) (b b' : List ℕ) → g ≡ field n (vlen b') → Holds n b x → Has Bytes (rule_of k n) → R k n b b' → PutIn R k c m r → Came k g r c (x ++ m)

  onto : {k : Kind} {c : ℕ} {m l r : List ℕ} → l ≡ r → PutIn R k c m l → PutIn R k c m r
  onto {k} {c} {m} e p = subst (λ l. PutIn R k c m l) e p

  came : {k : Kind} {c : ℕ} {m l : List ℕ} {g : Field} {y r : List ℕ} → PutIn R k c m l → l ≡ y ++ r → Framed g y → Came k g r c m
  came {g = g} {r = r} (PutIn.same k m) e i = subst (λ l. Came k g r 0 l) (sym e) (kept i (PutIn.same k r))
  came (PutIn.put n v h u p) e i = let q = front-field i h (sym e) in put n v q.0 u (onto (sym q.1) p)
  came (PutIn.keep f h h' p) e i = let q = front-field i h' (sym e) in kept (framed-as (sym q.0) h) (onto (sym q.1) p)
  came (PutIn.inside n k' b b' h h' g p q) e i = let j = front-field i h' (sym e) in inside n k' b b' j.0 h g p (onto (sym j.1) q)
  came (PutIn.hidden n b b' h h' g p) e i = let j = front-field i h' (sym e) in hidden n b b' j.0 h g (onto (sym j.1) p)
  came (PutIn.skipped n b b' h h' u p) e i = let j = front-field i h' (sym e) in skipped n b b' j.0 h u (onto (sym j.1) p)
  came (PutIn.replaced n b b' h h' g w p) e i = let j = front-field i h' (sym e) in replaced n b b' j.0 h g w (onto (sym j.1) p)

  -- whatever was put in before the rest r, d more are put in there
  abbrev Then : Kind → ℕ → List ℕ → List ℕ → Type 0
  Then k d r s = (c : ℕ) (m : List ℕ) → PutIn R k c m r → PutIn R k (c + d) m s

  then-keep : {k : Kind} {c : ℕ} (d : ℕ) (g : Field) {m r s y : List ℕ} → Framed g y → Then k d r s → Came k g r c m → PutIn R k (c + d) m (y ++ s)
  then-keep d _ i f (put {c = c} {m = m} n v e u p) = counted (omega arith) (PutIn.put n v (framed-as e i) u (f c m p))
  then-keep d g i f (kept {c = c} {m = m} h p) = PutIn.keep g h i (f c m p)
  then-keep d _ i f (inside {d = c} {m = m} n k' b b' e h g p q) = counted (omega arith) (PutIn.inside n k' b b' h (framed-as e i) g p (f c m q))
  then-keep d _ i f (hidden {c = c} {m = m} n b b' e h g p) = PutIn.hidden n b b' h (framed-as e i) g (f c m p)
  then-keep d _ i f (skipped {c = c} {m = m} n b b' e h u p) = PutIn.skipped n b b' h (framed-as e i) u (f c m p)
  then-keep d _ i f (replaced {c = c} {m = m} n b b' e h g w p) = PutIn.replaced n b b' h (framed-as e i) g w (f c m p)

  module _ (k : Kind) (n : ℕ) (b b' : List ℕ) (d : ℕ) where
    -- it has the form f before too
    has-form : (f : Form) {n' : ℕ} {a : List ℕ} → field n (vlen b) ≡ field n' (vlen a) → Has f (rule_of k n') → Has f (rule_of k n)
    has-form f e g = subst (λ i. Has f (rule_of k i)) (sym (holding e).0) g

    held-as : {n' : ℕ} {a c x : List ℕ} → field n (vlen b) ≡ field n' (vlen a) → Holds n' c x → Holds n c x
    held-as {n'} {a} {c} {x} e h = subst (λ i. Holds i c x) (sym (holding e).0) h

    then-inside : {c : ℕ} {m r s y : List ℕ} (i : ℕ) (k' : Kind) → Holds n b' y → Has (Nested k') (rule_of k n) → Then k' i b b' → Then k d r s → Came k (field n (vlen b)) r c m
        → PutIn R k (c + (i + d)) m (y ++ s)
    then-inside i k' h' g t f (put n' v e u p) = not_listed (Nested k') (ap (rule_of k) (numbered e).0 ∙ u) g
    then-inside i k' h' g t f (kept {c = c} {m = m} h p) = counted (omega arith) (PutIn.inside n k' b b' h h' g (t 0 b (PutIn.same k' b)) (f c m p))
    then-inside i k' h' g t f (inside {c = c} {d = c'} {m = m} n' j a a' e h g' p q) =
        let o : Nested j ≡ Nested k' = one_form (rule_of k n) (has-form (Nested j) e g') g in
        let p' : PutIn R k' c a b = subst (λ (i : Kind). PutIn R i c a b) (cc) (onto (sym (holding e).1) p) in
        counted (omega arith) (PutIn.inside n k' a b' (held-as e h) h' g (t c a p') (f c' m q))
    then-inside i k' h' g t f (hidden n' a a' e h g' p) = let o : Opaque ≡ Nested k' = one_form (rule_of k n) (has-form Opaque e g') g in never (cc)
    then-inside i k' h' g t f (skipped n' a a' e h u p) = not_listed (Nested k') (ap (rule_of k) (holding e).0 ∙ u) g
    then-inside i k' h' g t f (replaced n' a a' e h g' w p) = let o : Bytes ≡ Nested k' = one_form (rule_of k n) (has-form Bytes e g') g in never (cc)

    then-hidden : {c : ℕ} {m r s y : List ℕ} → Holds n b' y → Has Opaque (rule_of k n) → Then k d r s → Came k (field n (vlen b)) r c m → PutIn R k (c + d) m (y ++ s)
    then-hidden h' g f (put n' v e u p) = not_listed Opaque (ap (rule_of k) (numbered e).0 ∙ u) g
    then-hidden h' g f (kept {c = c} {m = m} h p) = PutIn.hidden n b b' h h' g (f c m p)
    then-hidden h' g f (inside n' j a a' e h g' p q) = let o : Nested j ≡ Opaque = one_form (rule_of k n) (has-form (Nested j) e g') g in never (cc)
    then-hidden h' g f (hidden {c = c} {m = m} n' a a' e h g' p) = PutIn.hidden n a b' (held-as e h) h' g (f c m p)
    then-hidden h' g f (skipped n' a a' e h u p) = not_listed Opaque (ap (rule_of k) (holding e).0 ∙ u) g
    then-hidden h' g f (replaced n' a a' e h g' w p) = let o : Bytes ≡ Opaque = one_form (rule_of k n) (has-form Bytes e g') g in never (cc)

    then-skipped : {c : ℕ} {m r s y : List ℕ} → Holds n b' y → rule_of k n ≡ Unlisted → Then k d r s → Came k (field n (vlen b)) r c m → PutIn R k (c + d) m (y ++ s)
    then-skipped h' u f (put {c = c} {m = m} n' v e u' p) = counted (omega arith) (PutIn.put n (vlen b') h' u (f c m p))
    then-skipped h' u f (kept {c = c} {m = m} h p) = PutIn.skipped n b b' h h' u (f c m p)
    then-skipped h' u f (inside n' j a a' e h g' p q) = not_listed (Nested j) u (has-form (Nested j) e g')
    then-skipped h' u f (hidden n' a a' e h g' p) = not_listed Opaque u (has-form Opaque e g')
    then-skipped h' u f (skipped {c = c} {m = m} n' a a' e h u' p) = PutIn.skipped n a b' (held-as e h) h' u (f c m p)
    then-skipped h' u f (replaced n' a a' e h g' w p) = not_listed Bytes u (has-form Bytes e g')

    then-replaced : {c : ℕ} {m r s y : List ℕ} → Holds n b' y → Has Bytes (rule_of k n) → R k n b b' → ((a : List ℕ) → R k n a b → R k n a b') → Then k d r s
        → Came k (field n (vlen b)) r c m → PutIn R k (c + d) m (y ++ s)
    then-replaced h' g w t f (put n' v e u p) = not_listed Bytes (ap (rule_of k) (numbered e).0 ∙ u) g
    then-replaced h' g w t f (kept {c = c} {m = m} h p) = PutIn.replaced n b b' h h' g w (f c m p)
    then-replaced h' g w t f (inside n' j a a' e h g' p q) = let o : Nested j ≡ Bytes = one_form (rule_of k n) (has-form (Nested j) e g') g in never (cc)
    then-replaced h' g w t f (hidden n' a a' e h g' p) = let o : Opaque ≡ Bytes = one_form (rule_of k n) (has-form Opaque e g') g in never (cc)
    then-replaced h' g w t f (skipped n' a a' e h u p) = not_listed Bytes (ap (rule_of k) (holding e).0 ∙ u) g
    then-replaced h' g w t f (replaced {c = c} {m = m} n' a a' e h g' w' p) =
        PutIn.replaced n a b' (held-as e h) h' g (t a (subst (λ l. R k n a l) (sym (holding e).1) (subst (λ i. R k i a a') (sym (holding e).0) w'))) (f c m p)

-- TWICE PUT IN: fields put into a message into which fields were put are fields put into that message, where replacing listed bytes twice is replacing them
pub put-in-twice : (R : Replaces) → ((k : Kind) (n : ℕ) (a b c : List ℕ) → R k n a b → R k n b c → R k n a c)
    → {k : Kind} {c d : ℕ} {l m n : List ℕ} → PutIn R k c l m → PutIn R k d m n → PutIn R k (c + d) l n
put-in-twice R t p (PutIn.same k m) = counted R (omega arith) p
put-in-twice R t p (PutIn.put n v h u q) = counted R (omega arith) (PutIn.put n v h u (put-in-twice R t p q))
put-in-twice R t p (PutIn.keep {c = d} f h h' q) = then-keep R d f h' (λ c m p. put-in-twice R t p q) (came R p refl h)
put-in-twice R t p (PutIn.inside {k = k} {c = i} {d = d} n k' b b' h h' g q r) =
    then-inside R k n b b' d i k' h' g (λ c m p. put-in-twice R t p q) (λ c m p. put-in-twice R t p r) (came R p refl h)
put-in-twice R t p (PutIn.hidden {k = k} {c = d} n b b' h h' g q) = then-hidden R k n b b' d h' g (λ c m p. put-in-twice R t p q) (came R p refl h)
put-in-twice R t p (PutIn.skipped {k = k} {c = d} n b b' h h' u q) = then-skipped R k n b b' d h' u (λ c m p. put-in-twice R t p q) (came R p refl h)
put-in-twice R t p (PutIn.replaced {k = k} {c = d} n b b' h h' g w q) =
    then-replaced R k n b b' d h' g w (λ a v. t k n a b b' v w) (λ c m p. put-in-twice R t p q) (came R p refl h)
