-- A field put in inside the security part, whatever else is put in elsewhere: the message says nothing.
use Rattle.std.specs.Prelude.{ℕ, zero, suc, ◌+◌, ◌≤◌, ◌≡◌, refl, List, [], ◌∷◌, ◌++◌, Bool, true, false, cond}
use Rattle.std.proofs.Common.{arith, sym, ap, ◌∙◌, subst}
use Rattle.std.proofs.Math.Option.{Option, none, some}
use Rattle.fields_wire.specs.Wire.{Value, vlen, Field, field, fields_of, Framed}
use Rattle.fields_schema.specs.Rules.{strict_of, rule_of}
use Rattle.fields_schema.specs.Tree.{map_o, then_o, Content, c_msg, Item, item, of_bytes, decode, find, is_some, add, by_rule, step, items, items_o, level}
use Rattle.fields_schema.specs.Tree.{sub, open_one, open_all, listed_in, listed}
use Rattle.fields_schema.specs.PutIn.{Has, Replaces, PutIn}
use Rattle.fields_schema.proofs.LevelLaws.{then-none, items-front, items-unlisted}
use Rattle.fields_schema.proofs.PutInLaws.{security-strict}
use Rattle.fields_schema.specs.declared.Kind.{Kind}
use Rattle.fields_schema.specs.declared.Form.{Form}
use Rattle.fields_schema.specs.declared.Form.TheVariants.{Nested}
use Rattle.fields_schema.specs.declared.Rule.{Rule}
use Rattle.fields_schema.specs.declared.Rule.TheVariants.{Unlisted, Refused, Once, Single, Repeated}

-- items among which is a message that says nothing
data Bad (d : ℕ) : List Item → Type 0 where
  here : {is : List Item} (n : ℕ) (k : Kind) (b : List ℕ) → listed_in d k b ≡ none → Bad d (item n (c_msg k b) ∷ is)
  there : {is : List Item} (i : Item) → Bad d is → Bad d (i ∷ is)

bad-open : (d : ℕ) {is : List Item} → Bad d is → open_all (λ k b. listed_in d k b) is ≡ none
unfolding open_all
bad-open d (here {is = is} n k b e) =
    ap (λ o. then_o (open_all (λ k b. listed_in d k b) is) (λ t. map_o (λ s. sub n s t) o)) e ∙ then-none (open_all (λ k b. listed_in d k b) is)
bad-open d (there {is = is} (item n c) r) = ap (λ o. then_o o (λ t. open_one (λ k b. listed_in d k b) n c t)) (bad-open d r)

bad-snoc : (d : ℕ) (i : Item) {is : List Item} → Bad d is → Bad d (is ++ (i ∷ []))
bad-snoc d i (here n k b e) = here n k b e
bad-snoc d i (there j r) = there j (bad-snoc d i r)

bad_last : (d n : ℕ) (k : Kind) (b : List ℕ) (is : List Item) → listed_in d k b ≡ none → Bad d (is ++ (item n (c_msg k b) ∷ []))
bad_last d n k b [] e = here n k b e
bad_last d n k b (i ∷ is) e = there i (bad_last d n k b is e)

abbrev BadO : ℕ → Option (List Item) → Type 0
BadO d none = Unit {0}
BadO d (some is) = Bad d is

bad_o-open : (d : ℕ) (o : Option (List Item)) → BadO d o → then_o o (λ is. open_all (λ k b. listed_in d k b) is) ≡ none
bad_o-open d none h = refl
bad_o-open d (some is) h = bad-open d h

bad_o-then : (d : ℕ) (o : Option (List Item)) (g : List Item → Option (List Item)) → BadO d o → ((is : List Item) → Bad d is → BadO d (g is))
    → BadO d (then_o o g)
bad_o-then d none g h f = tt
bad_o-then d (some is) g h f = f is h

bad-unless : (d : ℕ) (t : Bool) (o : Option (List Item)) → BadO d o → BadO d (cond t none o)
bad-unless d true o h = tt
bad-unless d false o h = h

-- further fields leave it so
bad-add : (d n : ℕ) (o : Option Content) {is : List Item} → Bad d is → BadO d (add n is o)
bad-add d n none h = tt
bad-add d n (some c) h = bad-snoc d (item n c) h

bad-rule : (d : ℕ) (r : Rule) (st : Bool) (n : ℕ) (v : Value) (is : List Item) → Bad d is → BadO d (by_rule r st n v is)
bad-rule d Unlisted st n v is h = bad-unless d st (some is) h
bad-rule d Refused st n v is h = tt
bad-rule d (Single f) st n v is h = bad-add d n (decode f v) h
bad-rule d (Once f) st n v is h = bad-unless d (is_some (find n is)) (add n is (decode f v)) (bad-add d n (decode f v) h)
bad-rule d (Repeated f) st n v is h = bad-add d n (decode f v) h

bad-step : (d : ℕ) (k : Kind) (f : Field) (is : List Item) → Bad d is → BadO d (step k f is)
bad-step d k (field n v) is h = bad-rule d (rule_of k n) (strict_of k) n v is h

bad-items : (d : ℕ) (k : Kind) (fs : List Field) (is : List Item) → Bad d is → BadO d (items k fs is)
unfolding items
bad-items d k [] is h = h
bad-items d k (f ∷ fs) is h = bad_o-then d (step k f is) (λ a. items k fs a) (bad-step d k f is h) (λ a q. bad-items d k fs a q)

bad-items_o : (d : ℕ) (k : Kind) (o : Option (List Field)) (is : List Item) → Bad d is → BadO d (items_o k o is)
bad-items_o d k none is h = tt
bad-items_o d k (some fs) is h = bad-items d k fs is h

-- a field that holds a message that says nothing
bad-message : (d : ℕ) (r : Rule) (st : Bool) (n : ℕ) (k : Kind) (b : List ℕ) (is : List Item) → Has (Nested k) r → listed_in d k b ≡ none
    → BadO d (by_rule r st n (vlen b) is)
bad-message d Unlisted st n k b is g e = absurd g
bad-message d Refused st n k b is g e = absurd g
bad-message d (Single f) st n k b is g e = subst (λ (f : Form). BadO d (add n is (of_bytes f b))) g (bad_last d n k b is e)
bad-message d (Once f) st n k b is g e =
    bad-unless d (is_some (find n is)) (add n is (of_bytes f b)) (subst (λ (f : Form). BadO d (add n is (of_bytes f b))) g (bad_last d n k b is e))
bad-message d (Repeated f) st n k b is g e = subst (λ (f : Form). BadO d (add n is (of_bytes f b))) g (bad_last d n k b is e)

-- whatever came before it, the message has no items or bad ones
abbrev Lost : Kind → List ℕ → Type 0
Lost k m = (d : ℕ) (acc : List Item) → BadO d (items_o k (fields_of m) acc)

lost-none : (k : Kind) (m : List ℕ) → Lost k m → (d : ℕ) → listed_in d k m ≡ none
unfolding listed_in level
lost-none k m h zero = refl
lost-none k m h (suc d) = bad_o-open d (items_o k (fields_of m) []) (h d [])

lost-later : (k : Kind) (f : Field) {x : List ℕ} (m : List ℕ) → Framed f x → Lost k m → Lost k (x ++ m)
lost-later k f m h l d acc = subst (λ o. BadO d o) (sym (items-front k m acc h)) (go (step k f acc))
  where
    go : (o : Option (List Item)) → BadO d (then_o o (λ a. items_o k (fields_of m) a))
    go none = tt
    go (some is) = l d is

lost-inside : (k : Kind) (n : ℕ) (k' : Kind) (b : List ℕ) {x : List ℕ} (m : List ℕ) → Framed (field n (vlen b)) x → Has (Nested k') (rule_of k n)
    → Lost k' b → Lost k (x ++ m)
lost-inside k n k' b m h g l d acc =
    subst (λ o. BadO d o) (sym (items-front k m acc h))
    (bad_o-then d (step k (field n (vlen b)) acc) (λ a. items_o k (fields_of m) a)
    (bad-message d (rule_of k n) (strict_of k) n k' b acc g (lost-none k' b l d)) (λ is s. bad-items_o d k (fields_of m) is s))

-- an unlisted field, in a strict kind or before a message that is lost
lost-put : (k : Kind) (t : Bool) (c n : ℕ) (v : Value) {x : List ℕ} (m : List ℕ) → strict_of k ≡ t → Framed (field n v) x → rule_of k n ≡ Unlisted
    → 1 ≤ cond t 1 0 + c → (1 ≤ c → Lost k m) → Lost k (x ++ m)
lost-put k true c n v m st h u p l d acc =
    subst (λ o. BadO d o) (sym (items-unlisted k n v m acc h u ∙ ap (λ t. cond t none (items_o k (fields_of m) acc)) st)) tt
lost-put k false c n v m st h u p l d acc = lost-later k (field n v) m h (l (omega arith)) d acc

either : (c d : ℕ) {A : Type 0} → 1 ≤ c + d → (1 ≤ c → A) → (1 ≤ d → A) → A
either zero d p f g = g (omega arith)
either (suc c) d p f g = f (omega arith)

module _ (R : Replaces) where
  put-lost : {k : Kind} {c : ℕ} {m m' : List ℕ} → PutIn R k c m m' → 1 ≤ c → Lost k m'
  put-lost (PutIn.same k m) p = absurd (omega arith)
  put-lost (PutIn.put {k = k} {c = c} {m' = m'} n v h u r) p =
      lost-put k (strict_of k) c n v m' refl h u (rw security-strict at p) (λ q. put-lost r q)
  put-lost (PutIn.keep {k = k} {m' = m'} f h h' r) p = lost-later k f m' h' (put-lost r p)
  put-lost (PutIn.inside {k = k} {c = c} {d = d} {m' = m'} n k' b b' h h' g q r) p =
      either c d p (λ l. lost-inside k n k' b' m' h' g (put-lost q l)) (λ l. lost-later k (field n (vlen b')) m' h' (put-lost r l))
  put-lost (PutIn.hidden {k = k} {m' = m'} n b b' h h' g r) p = lost-later k (field n (vlen b')) m' h' (put-lost r p)
  put-lost (PutIn.skipped {k = k} {m' = m'} n b b' h h' u r) p = lost-later k (field n (vlen b')) m' h' (put-lost r p)
  put-lost (PutIn.replaced {k = k} {m' = m'} n b b' h h' g w r) p = lost-later k (field n (vlen b')) m' h' (put-lost r p)

  pub put-in-refused-in : {k : Kind} {c : ℕ} {m m' : List ℕ} → PutIn R k (suc c) m m' → (d : ℕ) → listed_in d k m' ≡ none
  put-in-refused-in {k} {c} {m} {m'} r d = lost-none k m' (put-lost r (omega arith)) d

  -- INSIDE A STRICT KIND: one or more unlisted fields put into the security part, whatever else was put in or replaced, and whatever the message said
  pub put-in-refused : {k : Kind} {c : ℕ} {m m' : List ℕ} → PutIn R k (suc c) m m' → listed k m' ≡ none
  unfolding listed
  put-in-refused r = put-in-refused-in r 5
