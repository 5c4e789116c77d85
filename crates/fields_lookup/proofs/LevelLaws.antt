-- From the items of a level to the tree: the last number or bytes of a singular field; of a message that occurs once, that one.
use Rattle.std.specs.Prelude.{ℕ, ◌≤◌, ◌≡◌, refl, Bool, true, false, cond, eqb, length}
use Rattle.std.proofs.Common.{arith, sym, ap, ◌∙◌, eqb-true}
use Rattle.std.proofs.Math.Path.{subst}
use mathlib.Core.List.{List, [], ◌∷◌, ◌++◌}
use Rattle.std.proofs.Math.Option.{Option, none, some}
use Rattle.fields_wire.specs.Wire.{Value, Field, field, fields_of}
use Rattle.fields_schema.specs.Rules.{rule_of, strict_of}
use Rattle.fields_schema.specs.Tree.{map_o, then_o, guard, is_some, Content, c_int, c_raw, c_fix, c_msg, Item, item, decode, find, add, by_rule, step, items, items_o, level}
use Rattle.fields_schema.specs.Tree.{Tree, done, int, raw, fix, sub, open_one, open_all, listed, later, int_at, raw_at, join_o, sub_at, tree_in, cons_if, subs_at}
use Rattle.fields_schema.proofs.OptionLaws.{nothing-some, then_some, none_of}
use Rattle.fields_schema.specs.Merged.{is_cons}
use Rattle.fields_schema.proofs.MergedLaws.{sub-some}
use Rattle.fields_schema.proofs.DepthLaws.{listed-opens}
use Rattle.fields_rule.specs.Judged.{Sole}
use Rattle.fields_rule.specs.SoleLaws.{sole-snoc}
use Rattle.fields_decode.specs.Slots.{find_last}
use Rattle.fields_schema.specs.declared.Kind.{Kind}
use Rattle.fields_schema.specs.declared.Form.{Form}
use Rattle.fields_schema.specs.declared.Rule.{Rule}
use Rattle.fields_schema.specs.declared.Rule.TheVariants.{Unlisted, Refused, Once, Single, Repeated}
use Rattle.fields_lookup.specs.Views.{Reads, tree_of, Singular}
use Rattle.fields_lookup.specs.Level.{AllOf, Decodes, int_c, raw_c, sub_c, Is, IsMessage}

-- a property of the items of a level, kept by each field ------------------------------------
module _ (P : List Item → Type 0) where
  abbrev Maybe : Option (List Item) → Type 0
  Maybe none = Unit {0}
  Maybe (some is) = P is

  kept-choose : (t : Bool) (o : Option (List Item)) → (t ≡ false → Maybe o) → Maybe (cond t none o)
  kept-choose true o h = tt
  kept-choose false o h = h refl

  kept-add : (n : ℕ) (is : List Item) (o : Option Content) → ((c : Content) → o ≡ some c → P (is ++ (item n c ∷ []))) → Maybe (add n is o)
  kept-add n is none h = tt
  kept-add n is (some c) h = h c refl

  kept_then : (o : Option (List Item)) (g : List Item → Option (List Item)) → Maybe o → ((a : List Item) → P a → Maybe (g a)) → Maybe (then_o o g)
  kept_then none g h f = tt
  kept_then (some a) g h f = f a h

  -- it is enough that each listed field that is added keeps it
  module _ (k : Kind) (once : (n : ℕ) (f : Form) (v : Value) (c : Content) (is : List Item) → rule_of k n ≡ Once f → find n is ≡ none → decode f v ≡ some c → P is → P (is ++ (item n c ∷ [])))
      (single : (n : ℕ) (f : Form) (v : Value) (c : Content) (is : List Item) → rule_of k n ≡ Single f → decode f v ≡ some c → P is → P (is ++ (item n c ∷ [])))
      (repeated : (n : ℕ) (f : Form) (v : Value) (c : Content) (is : List Item) → rule_of k n ≡ Repeated f → decode f v ≡ some c → P is → P (is ++ (item n c ∷ []))) where
    kept_rule : (r : Rule) (st : Bool) (n : ℕ) (v : Value) (is : List Item) → rule_of k n ≡ r → P is → Maybe (by_rule r st n v is)
    kept_rule Unlisted st n v is e h = kept-choose st (some is) (λ t. h)
    kept_rule Refused st n v is e h = tt
    kept_rule (Once f) st n v is e h =
        kept-choose (is_some (find n is)) (add n is (decode f v)) (λ t. kept-add n is (decode f v) (λ c q. once n f v c is e (none_of (find n is) t) q h))
    kept_rule (Single f) st n v is e h = kept-add n is (decode f v) (λ c q. single n f v c is e q h)
    kept_rule (Repeated f) st n v is e h = kept-add n is (decode f v) (λ c q. repeated n f v c is e q h)

    kept_step : (f : Field) (is : List Item) → P is → Maybe (step k f is)
    kept_step (field n v) is h = kept_rule (rule_of k n) (strict_of k) n v is refl h

    kept-items : (fs : List Field) (is : List Item) → P is → Maybe (items k fs is)
    unfolding items
    kept-items [] is h = h
    kept-items (f ∷ fs) is h = kept_then (step k f is) (λ a. items k fs a) (kept_step f is h) (λ a q. kept-items fs a q)

    pub kept-level : (s : List ℕ) → P [] → {is : List Item} → level k s ≡ some is → P is
    unfolding level
    kept-level s h {is} e = subst (λ (o : Option (List Item)). Maybe o) e (go (fields_of s))
      where
        go : (o : Option (List Field)) → Maybe (items_o k o [])
        go none = tt
        go (some fs) = kept-items fs [] h

-- what a listed field holds fits its rule ----------------------------------------------------
abbrev Ruled : Rule → Content → Type 0
Ruled Unlisted c = ⊥
Ruled Refused c = ⊥
Ruled (Once f) c = (v : Value) × (decode f v ≡ some c)
Ruled (Single f) c = (v : Value) × (decode f v ≡ some c)
Ruled (Repeated f) c = (v : Value) × (decode f v ≡ some c)

abbrev AllRuled : Kind → List Item → Type 0
AllRuled k [] = Unit {0}
AllRuled k (item n c ∷ is) = Ruled (rule_of k n) c × AllRuled k is

ruled-snoc : (k : Kind) (is : List Item) (n : ℕ) (c : Content) → AllRuled k is → Ruled (rule_of k n) c → AllRuled k (is ++ (item n c ∷ []))
ruled-snoc k [] n c h o = (o, tt)
ruled-snoc k (item m d ∷ is) n c h o = (h.0, ruled-snoc k is n c h.1 o)

ruled-level : (k : Kind) (s : List ℕ) {is : List Item} → level k s ≡ some is → AllRuled k is
ruled-level k s e =
    kept-level (AllRuled k) k (λ n f v c is q z d h. ruled-snoc k is n c h (subst (λ (r : Rule). Ruled r c) (sym q) (v, d)))
    (λ n f v c is q d h. ruled-snoc k is n c h (subst (λ (r : Rule). Ruled r c) (sym q) (v, d)))
    (λ n f v c is q d h. ruled-snoc k is n c h (subst (λ (r : Rule). Ruled r c) (sym q) (v, d))) s tt e

singular-decodes : (r : Rule) (f : Form) (c : Content) → Singular f r → Ruled r c → (v : Value) × (decode f v ≡ some c)
singular-decodes Unlisted f c s h = absurd h
singular-decodes Refused f c s h = absurd h
singular-decodes (Once g) f c s h = (h.0, ap (λ f. decode f h.0) s ∙ h.1)
singular-decodes (Single g) f c s h = (h.0, ap (λ f. decode f h.0) s ∙ h.1)
singular-decodes (Repeated g) f c s h = absurd s

all-ruled : (k : Kind) (n : ℕ) (f : Form) (is : List Item) → Singular f (rule_of k n) → AllRuled k is → AllOf (Decodes f) n is
all-ruled k n f [] q h = tt
all-ruled k n f (item m c ∷ is) q h =
    (λ e. singular-decodes (rule_of k n) f c q (subst (λ (j : ℕ). Ruled (rule_of k j) c) (sym (eqb-true n m e)) h.0), all-ruled k n f is q h.1)

pub all_more : (P Q : Content → Type 0) (n : ℕ) (is : List Item) → ((c : Content) → P c → Q c) → AllOf P n is → AllOf Q n is
all_more P Q n [] f h = tt
all_more P Q n (item m c ∷ is) f h = (λ e. f c (h.0 e), all_more P Q n is f h.1)

pub all-last : (P : Content → Type 0) (n : ℕ) (is : List Item) {c : Content} → AllOf P n is → find_last n is ≡ some c → P c
all-last P n [] h e = nothing-some e
all-last P n (item m d ∷ is) {c} h e = go (find_last n is) (λ x q. all-last P n is {c = x} h.1 q) (eqb n m) refl e
  where
    go : (o : Option Content) → ((x : Content) → o ≡ some x → P x) → (t : Bool) → eqb n m ≡ t → later o (guard t d) ≡ some c → P c
    go (some x) r t q w = let z : x ≡ c = cc (w) in subst P z (r x refl)
    go none r true q w = let z : d ≡ c = cc (w) in subst P z (h.0 q)
    go none r false q w = nothing-some w

pub level_all : (k : Kind) (n : ℕ) (f : Form) (s : List ℕ) (is : List Item) → Singular f (rule_of k n) → level k s ≡ some is → AllOf (Decodes f) n is
level_all k n f s is q e = all-ruled k n f is q (ruled-level k s e)

pub level-decodes : (k : Kind) (n : ℕ) (f : Form) (s : List ℕ) (is : List Item) {c : Content} → Singular f (rule_of k n) → level k s ≡ some is → find_last n is ≡ some c
    → (v : Value) × (decode f v ≡ some c)
level-decodes k n f s is q e h = all-last (Decodes f) n is (level_all k n f s is q e) h

-- the first and the last -------------------------------------------------------------------------
pub last-there : (n : ℕ) (is : List Item) → is_some (find_last n is) ≡ is_some (find n is)
last-there n [] = refl
last-there n (item m c ∷ is) = go (find_last n is) (find n is) (eqb n m) (last-there n is)
  where
    go : (o p : Option Content) (t : Bool) → is_some o ≡ is_some p → is_some (later o (guard t c)) ≡ is_some (cond t (some c) p)
    go none p true e = refl
    go none p false e = e
    go (some x) p true e = refl
    go (some x) p false e = e

pub sole-last : (n : ℕ) (is : List Item) → Sole n is → find_last n is ≡ find n is
sole-last n [] o = refl
sole-last n (item m c ∷ is) o = go (sole-last n is o.1) (eqb n m) refl
  where
    same : (o : Option Content) → later o none ≡ o
    same none = refl
    same (some x) = refl

    go : find_last n is ≡ find n is → (t : Bool) → eqb n m ≡ t → later (find_last n is) (guard t c) ≡ cond t (some c) (find n is)
    go h true e = ap (λ o. later o (some c)) (h ∙ o.0 e)
    go h false e = same (find_last n is) ∙ h

-- a number of rule Once occurs at most once ---------------------------------------------------------
-- THE LAW: where `level` gives items, a number of rule Once occurs at most once
pub level-once : (k : Kind) (n : ℕ) (g : Form) → rule_of k n ≡ Once g → (s : List ℕ) {is : List Item} → level k s ≡ some is → Sole n is
level-once k n g r s e =
    kept-level (Sole n) k (λ m f v c is q z d h. sole-snoc n m c is (λ w. ap (λ j. find j is) (eqb-true n m w) ∙ z) h)
    (λ m f v c is q d h. sole-snoc n m c is (λ w. let p : Once g ≡ Single f = other m w ∙ q in let z : ◌≡◌ {A = ℕ} 0 1 = cc (p) in absurd (omega arith)) h)
    (λ m f v c is q d h. sole-snoc n m c is (λ w. let p : Once g ≡ Repeated f = other m w ∙ q in let z : ◌≡◌ {A = ℕ} 0 1 = cc (p) in absurd (omega arith)) h) s tt e
  where
    other : (m : ℕ) → eqb n m ≡ true → Once g ≡ rule_of k m
    other m w = sym r ∙ ap (rule_of k) (eqb-true n m w)

-- one item before the others: of another sort, or of the number looked for
module _ {A : Type 0} (X : Option Content → Option A) (z : X none ≡ none) (n : ℕ) (is : List Item) {x : Option A} (ih : x ≡ X (find_last n is)) (c : Content) (b : Bool) where
  skip : b ≡ false → x ≡ X (later (find_last n is) (guard b c))
  skip e = ih ∙ ap X (sym (ap (λ t. later (find_last n is) (guard t c)) e ∙ same (find_last n is)))
    where
      same : (o : Option Content) → later o none ≡ o
      same none = refl
      same (some a) = refl

  hit : (v : A) → X (some c) ≡ some v → ((d : Content) → find_last n is ≡ some d → (w : A) × (X (some d) ≡ some w)) → later x (guard b v) ≡ X (later (find_last n is) (guard b c))
  hit v w f = go (find_last n is) refl b
    where
      go : (o : Option Content) → find_last n is ≡ o → (t : Bool) → later x (guard t v) ≡ X (later o (guard t c))
      go none e true = ap (λ y. later y (some v)) (ih ∙ ap X e ∙ z) ∙ sym w
      go none e false = ap (λ y. later y none) (ih ∙ ap X e ∙ z) ∙ sym z
      go (some d) e t = let i = f d e in ap (λ y. later y (guard t v)) (ih ∙ ap X e ∙ i.1) ∙ sym i.1

not-of : (b : Bool) → (b ≡ true → ⊥) → b ≡ false
not-of true f = absurd (f refl)
not-of false f = refl

wrong-sort : {A : Type 0} {P : Type 0} → ((v : A) × (◌≡◌ {A = Option A} none (some v))) → P
wrong-sort h = nothing-some h.1

pub int-look : (n : ℕ) (is : List Item) (t : Tree) → open_all (λ k b. listed k b) is ≡ some t → AllOf (Is int_c) n is → int_at n t ≡ int_c (find_last n is)
unfolding open_all
int-look n [] t e o = let w : done ≡ t = cc in subst (λ (t : Tree). int_at n t ≡ none) w refl
int-look n (item m c ∷ is) t e o =
    let i = then_some (open_all (λ k b. listed k b) is) (λ t. open_one (λ k b. listed k b) m c t) e in
    go c i.0 (int-look n is i.0 i.1 o.1) o.0 i.2
  where
    go : (c : Content) (t0 : Tree) → int_at n t0 ≡ int_c (find_last n is) → (eqb n m ≡ true → Is int_c c) → open_one (λ k b. listed k b) m c t0 ≡ some t → int_at n t ≡ int_c (later (find_last n is) (guard (eqb n m) c))
    go (c_int v) t0 ih f q = let w : int m v t0 ≡ t = cc (q) in ap (int_at n) (sym w) ∙ hit int_c refl n is ih (c_int v) (eqb n m) v refl (λ d e. all-last (Is int_c) n is o.1 e)
    go (c_raw b) t0 ih f q = let w : raw m b t0 ≡ t = cc (q) in ap (int_at n) (sym w) ∙ skip int_c refl n is ih (c_raw b) (eqb n m) (not-of (eqb n m) (λ e. wrong-sort (f e)))
    go (c_fix b) t0 ih f q = let w : fix m b t0 ≡ t = cc (q) in ap (int_at n) (sym w) ∙ skip int_c refl n is ih (c_fix b) (eqb n m) (not-of (eqb n m) (λ e. wrong-sort (f e)))
    go (c_msg k b) t0 ih f q = inner (listed k b) q
      where
        inner : (x : Option Tree) → map_o (λ s. sub m s t0) x ≡ some t → int_at n t ≡ int_c (later (find_last n is) (guard (eqb n m) (c_msg k b)))
        inner none q = nothing-some q
        inner (some s) q = let w : sub m s t0 ≡ t = cc (q) in ap (int_at n) (sym w) ∙ skip int_c refl n is ih (c_msg k b) (eqb n m) (not-of (eqb n m) (λ e. wrong-sort (f e)))

pub raw-look : (n : ℕ) (is : List Item) (t : Tree) → open_all (λ k b. listed k b) is ≡ some t → AllOf (Is raw_c) n is → raw_at n t ≡ raw_c (find_last n is)
unfolding open_all
raw-look n [] t e o = let w : done ≡ t = cc in subst (λ (t : Tree). raw_at n t ≡ none) w refl
raw-look n (item m c ∷ is) t e o =
    let i = then_some (open_all (λ k b. listed k b) is) (λ t. open_one (λ k b. listed k b) m c t) e in
    go c i.0 (raw-look n is i.0 i.1 o.1) o.0 i.2
  where
    go : (c : Content) (t0 : Tree) → raw_at n t0 ≡ raw_c (find_last n is) → (eqb n m ≡ true → Is raw_c c) → open_one (λ k b. listed k b) m c t0 ≡ some t → raw_at n t ≡ raw_c (later (find_last n is) (guard (eqb n m) c))
    go (c_int v) t0 ih f q = let w : int m v t0 ≡ t = cc (q) in ap (raw_at n) (sym w) ∙ skip raw_c refl n is ih (c_int v) (eqb n m) (not-of (eqb n m) (λ e. wrong-sort (f e)))
    go (c_raw b) t0 ih f q = let w : raw m b t0 ≡ t = cc (q) in ap (raw_at n) (sym w) ∙ hit raw_c refl n is ih (c_raw b) (eqb n m) b refl (λ d e. all-last (Is raw_c) n is o.1 e)
    go (c_fix b) t0 ih f q = let w : fix m b t0 ≡ t = cc (q) in ap (raw_at n) (sym w) ∙ skip raw_c refl n is ih (c_fix b) (eqb n m) (not-of (eqb n m) (λ e. wrong-sort (f e)))
    go (c_msg k b) t0 ih f q = inner (listed k b) q
      where
        inner : (x : Option Tree) → map_o (λ s. sub m s t0) x ≡ some t → raw_at n t ≡ raw_c (later (find_last n is) (guard (eqb n m) (c_msg k b)))
        inner none q = nothing-some q
        inner (some s) q = let w : sub m s t0 ≡ t = cc (q) in ap (raw_at n) (sym w) ∙ skip raw_c refl n is ih (c_msg k b) (eqb n m) (not-of (eqb n m) (λ e. wrong-sort (f e)))

-- one item before the others, of a message that occurs once
module _ {A : Type 0} (X : Option Content → Option A) (z : X none ≡ none) (n : ℕ) (is : List Item) {x : Option A} (ih : x ≡ X (find n is)) (c : Content) (b : Bool)
    (o : b ≡ true → find n is ≡ none) where
  pass : X (some c) ≡ none → x ≡ X (cond b (some c) (find n is))
  pass w = go b refl
    where
      go : (t : Bool) → b ≡ t → x ≡ X (cond t (some c) (find n is))
      go true e = ih ∙ ap X (o e) ∙ z ∙ sym w
      go false e = ih

pub sub-look : (n : ℕ) (is : List Item) (t : Tree) → open_all (λ k b. listed k b) is ≡ some t → Sole n is → sub_at n t ≡ sub_c (find n is)
unfolding open_all
sub-look n [] t e o = let w : done ≡ t = cc in subst (λ (t : Tree). sub_at n t ≡ none) w refl
sub-look n (item m c ∷ is) t e o =
    let i = then_some (open_all (λ k b. listed k b) is) (λ t. open_one (λ k b. listed k b) m c t) e in
    go c i.0 (sub-look n is i.0 i.1 o.1) i.2
  where
    go : (c : Content) (t0 : Tree) → sub_at n t0 ≡ sub_c (find n is) → open_one (λ k b. listed k b) m c t0 ≡ some t → sub_at n t ≡ sub_c (cond (eqb n m) (some c) (find n is))
    go (c_int v) t0 ih q = let w : int m v t0 ≡ t = cc (q) in ap (sub_at n) (sym w) ∙ pass sub_c refl n is ih (c_int v) (eqb n m) o.0 refl
    go (c_raw b) t0 ih q = let w : raw m b t0 ≡ t = cc (q) in ap (sub_at n) (sym w) ∙ pass sub_c refl n is ih (c_raw b) (eqb n m) o.0 refl
    go (c_fix b) t0 ih q = let w : fix m b t0 ≡ t = cc (q) in ap (sub_at n) (sym w) ∙ pass sub_c refl n is ih (c_fix b) (eqb n m) o.0 refl
    go (c_msg k b) t0 ih q = inner (listed k b) refl q
      where
        joined : (s : Tree) (x : Bool) → eqb n m ≡ x → listed k b ≡ some s → join_o x s (sub_at n t0) ≡ sub_c (cond x (some (c_msg k b)) (find n is))
        joined s true g r = ap (join_o true s) (ih ∙ ap sub_c (o.0 g)) ∙ sym r
        joined s false g r = ih

        inner : (x : Option Tree) → listed k b ≡ x → map_o (λ s. sub m s t0) x ≡ some t → sub_at n t ≡ sub_c (cond (eqb n m) (some (c_msg k b)) (find n is))
        inner none r q = nothing-some q
        inner (some s) r q = let w : sub m s t0 ≡ t = cc (q) in ap (sub_at n) (sym w) ∙ joined s (eqb n m) refl r

-- whether there is a message of a number, however often
some-later : (o : Option Content) (b : Bool) (c : Content) → is_some (later o (guard b c)) ≡ cond b true (is_some o)
some-later none true c = refl
some-later none false c = refl
some-later (some d) true c = refl
some-later (some d) false c = refl

some-join : (o : Option Tree) (b : Bool) (s : Tree) → is_some (join_o b s o) ≡ cond b true (is_some o)
some-join o false s = refl
some-join none true s = refl
some-join (some u) true s = refl

pub there-look : (n : ℕ) (is : List Item) (t : Tree) → open_all (λ k b. listed k b) is ≡ some t → AllOf IsMessage n is → is_some (sub_at n t) ≡ is_some (find_last n is)
unfolding open_all
there-look n [] t e o = let w : done ≡ t = cc in subst (λ (t : Tree). is_some (sub_at n t) ≡ false) w refl
there-look n (item m c ∷ is) t e o =
    let i = then_some (open_all (λ k b. listed k b) is) (λ t. open_one (λ k b. listed k b) m c t) e in
    go c i.0 (there-look n is i.0 i.1 o.1) o.0 i.2
  where
    other : (c : Content) (t0 : Tree) → is_some (sub_at n t0) ≡ is_some (find_last n is) → (eqb n m ≡ true → ⊥) → sub_at n t ≡ sub_at n t0 → is_some (sub_at n t) ≡ is_some (later (find_last n is) (guard (eqb n m) c))
    other c t0 ih f w = ap is_some w ∙ ih ∙ sym (some-later (find_last n is) (eqb n m) c ∙ ap (λ b. cond b true (is_some (find_last n is))) (not-of (eqb n m) f))

    go : (c : Content) (t0 : Tree) → is_some (sub_at n t0) ≡ is_some (find_last n is) → (eqb n m ≡ true → IsMessage c) → open_one (λ k b. listed k b) m c t0 ≡ some t
        → is_some (sub_at n t) ≡ is_some (later (find_last n is) (guard (eqb n m) c))
    go (c_int v) t0 ih f q = let w : int m v t0 ≡ t = cc (q) in other (c_int v) t0 ih f (ap (sub_at n) (sym w))
    go (c_raw b) t0 ih f q = let w : raw m b t0 ≡ t = cc (q) in other (c_raw b) t0 ih f (ap (sub_at n) (sym w))
    go (c_fix b) t0 ih f q = let w : fix m b t0 ≡ t = cc (q) in other (c_fix b) t0 ih f (ap (sub_at n) (sym w))
    go (c_msg k b) t0 ih f q = inner (listed k b) q
      where
        inner : (x : Option Tree) → map_o (λ s. sub m s t0) x ≡ some t → is_some (sub_at n t) ≡ is_some (later (find_last n is) (guard (eqb n m) (c_msg k b)))
        inner none q = nothing-some q
        inner (some s) q =
            let w : sub m s t0 ≡ t = cc (q) in
            ap (λ t. is_some (sub_at n t)) (sym w) ∙ some-join (sub_at n t0) (eqb n m) s ∙ ap (cond (eqb n m) true) ih ∙ sym (some-later (find_last n is) (eqb n m) (c_msg k b))

-- every message inside a message that decodes decodes
pub open-message : (n : ℕ) (k : Kind) (b : List ℕ) (is : List Item) (t : Tree) → open_all (λ k b. listed k b) is ≡ some t → find n is ≡ some (c_msg k b) → (u : Tree) × (listed k b ≡ some u)
unfolding open_all
open-message n k b [] t e q = nothing-some q
open-message n k b (item m c ∷ is) t e q =
    let i = then_some (open_all (λ k b. listed k b) is) (λ t. open_one (λ k b. listed k b) m c t) e in
    go i.0 (eqb n m) q i.2 (λ w. open-message n k b is i.0 i.1 w)
  where
    mapped : (g : Tree → Tree) (o : Option Tree) → map_o g o ≡ some t → (u : Tree) × (o ≡ some u)
    mapped g none w = nothing-some w
    mapped g (some u) w = (u, refl)

    go : (t0 : Tree) (x : Bool) → cond x (some c) (find n is) ≡ some (c_msg k b) → open_one (λ k b. listed k b) m c t0 ≡ some t
        → (find n is ≡ some (c_msg k b) → (u : Tree) × (listed k b ≡ some u)) → (u : Tree) × (listed k b ≡ some u)
    go t0 true w v f =
        let p : c ≡ c_msg k b = cc (w) in
        mapped (λ s. sub m s t0) (listed k b) (subst (λ (c : Content). open_one (λ k b. listed k b) m c t0 ≡ some t) p v)
    go t0 false w v f = f w

-- a message that decodes: its level, opened
pub tree_is : (k : Kind) (m : List ℕ) → Reads k m → listed k m ≡ some (tree_of k m)
unfolding tree_of
tree_is k m y = go (listed k m) y
  where
    go : (o : Option Tree) → is_some o ≡ true → o ≡ some (tree_in o)
    go none e = let z : ◌≡◌ {A = ℕ} 0 1 = cc in absurd (omega arith)
    go (some t) e = refl

pub level-of : (k : Kind) (m : List ℕ) → Reads k m → (is : List Item) × (level k m ≡ some is) × (open_all (λ k b. listed k b) is ≡ some (tree_of k m))
level-of k m y = then_some (level k m) (λ is. open_all (λ k b. listed k b) is) (sym (listed-opens k m) ∙ tree_is k m y)

-- at most one message of a number that occurs at most once
none_left : (l : List Tree) → is_cons l ≡ false → l ≡ []
none_left [] e = refl
none_left (x ∷ l) e = let z : ◌≡◌ {A = ℕ} 0 1 = cc in absurd (omega arith)

sole-subs : (n : ℕ) (is : List Item) (t : Tree) → open_all (λ k b. listed k b) is ≡ some t → Sole n is → length (subs_at n t) ≤ 1
unfolding open_all
sole-subs n [] t e o = let w : done ≡ t = cc in subst (λ (t : Tree). length (subs_at n t) ≤ 1) w (omega arith)
sole-subs n (item m c ∷ is) t e o =
    let i = then_some (open_all (λ k b. listed k b) is) (λ t. open_one (λ k b. listed k b) m c t) e in
    go c i.0 (sole-subs n is i.0 i.1 o.1) (sub-look n is i.0 i.1 o.1) i.2
  where
    go : (c : Content) (t0 : Tree) → length (subs_at n t0) ≤ 1 → sub_at n t0 ≡ sub_c (find n is) → open_one (λ k b. listed k b) m c t0 ≡ some t → length (subs_at n t) ≤ 1
    go (c_int v) t0 ih f q = let w : int m v t0 ≡ t = cc (q) in subst (λ (t : Tree). length (subs_at n t) ≤ 1) w ih
    go (c_raw b) t0 ih f q = let w : raw m b t0 ≡ t = cc (q) in subst (λ (t : Tree). length (subs_at n t) ≤ 1) w ih
    go (c_fix b) t0 ih f q = let w : fix m b t0 ≡ t = cc (q) in subst (λ (t : Tree). length (subs_at n t) ≤ 1) w ih
    go (c_msg k b) t0 ih f q = inner (listed k b) q
      where
        one : (s : Tree) (x : Bool) → eqb n m ≡ x → length (cons_if x s (subs_at n t0)) ≤ 1
        one s false g = ih
        one s true g =
            let z : subs_at n t0 ≡ [] = none_left (subs_at n t0) (sym (sub-some n t0) ∙ ap is_some (f ∙ ap sub_c (o.0 g))) in
            subst (λ (l : List Tree). length (s ∷ l) ≤ 1) (sym z) (omega arith)

        inner : (x : Option Tree) → map_o (λ s. sub m s t0) x ≡ some t → length (subs_at n t) ≤ 1
        inner none q = nothing-some q
        inner (some s) q = let w : sub m s t0 ≡ t = cc (q) in subst (λ (t : Tree). length (subs_at n t) ≤ 1) w (one s (eqb n m) refl)

pub once-subs : (k : Kind) (n : ℕ) (g : Form) → rule_of k n ≡ Once g → (m : List ℕ) → Reads k m → length (subs_at n (tree_of k m)) ≤ 1
once-subs k n g r m y = let l = level-of k m y in sole-subs n l.0 (tree_of k m) l.2 (level-once k n g r m l.1)
