-- The values of a repeated number, one after another, are the tree's.
use Rattle.std.specs.Prelude.{ℕ, ◌≡◌, Bool, cond}
use Rattle.std.proofs.Math.Path.{refl, sym, ap, subst}
use Rattle.std.proofs.Common.{ap₂, ◌∙◌}
use mathlib.Core.List.{List, [], ◌∷◌, ◌++◌, append_assoc, append-nil}
use Rattle.std.proofs.Math.Option.{Option, none, some}
use Rattle.std.proofs.Math.Bool.{true, false}
use Rattle.std.proofs.Math.Dec.{eqb}
use borrow.Author.Tests.{eqb-true}
use Rattle.fields_wire.specs.Wire.{Value, vint, v64, vlen, v32, Field, field, fields_of}
use Rattle.fields_schema.specs.Rules.{names_of, rule_of, strict_of}
use Rattle.fields_schema.specs.Tree.{map_o, guard, is_some, among, Content, c_int, c_raw, c_fix, c_msg, Item, item, is_int32, decode, find, add, by_rule, step, items, items_o, level}
use Rattle.fields_schema.specs.Tree.{Tree, done, int, raw, fix, sub, open_one, open_all, listed, cons_if, ints_at, raws_at, subs_at, tree_in}
use Rattle.fields_schema.specs.PutIn.{Has}
use Rattle.fields_schema.specs.declared.Kind.{Kind}
use Rattle.fields_schema.specs.declared.Names.{Names}
use Rattle.fields_schema.specs.declared.Form.{Form}
use Rattle.fields_schema.specs.declared.Form.TheVariants.{Int32, Named, Bytes, Nested}
use Rattle.fields_schema.specs.declared.Rule.{Rule}
use Rattle.fields_schema.specs.declared.Rule.TheVariants.{Unlisted, Refused, Once, Single, Repeated}
use Rattle.fields_lookup.specs.Views.{Reads, tree_of}
use Rattle.fields_repeated.specs.Values.{values_of, or_nil, values_in, parts_of, numbers_of, parts_in, numbers_in, WellFramed}
use Rattle.fields_schema.proofs.OptionLaws.{nothing-some, then_some}
use Rattle.fields_lookup.proofs.LevelLaws.{level-of}
use Rattle.fields_repeated.specs.Repeated.{AllAmong, trees_of, AllRead}

-- what the items of a number hold, in order
abbrev contents : ℕ → List Item → List Content
contents n [] = []
contents n (item m c ∷ is) = cons_if (eqb n m) c (contents n is)

contents-snoc : (n m : ℕ) (c : Content) (is : List Item) → contents n (is ++ (item m c ∷ [])) ≡ contents n is ++ cons_if (eqb n m) c []
contents-snoc n m c [] = refl
contents-snoc n m c (item j d ∷ is) = go (eqb n j) (contents-snoc n m c is)
  where
    go : (t : Bool) → contents n (is ++ (item m c ∷ [])) ≡ contents n is ++ cons_if (eqb n m) c []
        → cons_if t d (contents n (is ++ (item m c ∷ []))) ≡ cons_if t d (contents n is) ++ cons_if (eqb n m) c []
    go true e = ap (λ l. d ∷ l) e
    go false e = e

-- each content is what the form makes of the value
abbrev Each : Form → List Value → List Content → Type 0
Each f [] [] = Unit {0}
Each f [] (c ∷ cs) = ⊥
Each f (v ∷ vs) [] = ⊥
Each f (v ∷ vs) (c ∷ cs) = (decode f v ≡ some c) × Each f vs cs

-- the items after a field: as they were, or one more
data Grown (m : ℕ) (is : List Item) : List Item → Type 0 where
  as_was : Grown m is is
  more : (c : Content) → Grown m is (is ++ (item m c ∷ []))

grown-add : (m : ℕ) (is js : List Item) (o : Option Content) → add m is o ≡ some js → Grown m is js
grown-add m is js none e = nothing-some e
grown-add m is js (some c) e = let q : is ++ (item m c ∷ []) ≡ js = cc in subst (λ (l : List Item). Grown m is l) q (more c)

grown-choose : (m : ℕ) (is js : List Item) (t : Bool) (o : Option (List Item)) → cond t none o ≡ some js → (o ≡ some js → Grown m is js) → Grown m is js
grown-choose m is js true o e h = nothing-some e
grown-choose m is js false o e h = h e

grown-rule : (r : Rule) (st : Bool) (m : ℕ) (v : Value) (is js : List Item) → by_rule r st m v is ≡ some js → Grown m is js
grown-rule Unlisted st m v is js e = grown-choose m is js st (some is) e (λ q. let w : is ≡ js = cc (q) in subst (λ (l : List Item). Grown m is l) w as_was)
grown-rule Refused st m v is js e = nothing-some e
grown-rule (Single f) st m v is js e = grown-add m is js (decode f v) e
grown-rule (Once f) st m v is js e = grown-choose m is js (is_some (find m is)) (add m is (decode f v)) e (λ q. grown-add m is js (decode f v) q)
grown-rule (Repeated f) st m v is js e = grown-add m is js (decode f v) e

grown-other : (n m : ℕ) (is : List Item) {js : List Item} → eqb n m ≡ false → Grown m is js → contents n js ≡ contents n is
grown-other n m is e as_was = refl
grown-other n m is e (more c) = contents-snoc n m c is ∙ ap (λ t. contents n is ++ cons_if t c []) e ∙ append-nil (contents n is)

record Adds (n : ℕ) (f : Form) (vs : List Value) (acc is : List Item) : Type 0 where
  pub new : List Content
  pub after : contents n is ≡ contents n acc ++ new
  pub each : Each f vs new

module _ (k : Kind) (n : ℕ) (g : Form) (ρ : Has g (rule_of k n)) where
  one : (v : Value) (acc a : List Item) → step k (field n v) acc ≡ some a → (c : Content) × (decode g v ≡ some c) × (a ≡ acc ++ (item n c ∷ []))
  one v acc a e = by (rule_of k n) ρ e
    where
      go : (o : Option Content) → add n acc o ≡ some a → (c : Content) × (o ≡ some c) × (a ≡ acc ++ (item n c ∷ []))
      go none q = nothing-some q
      go (some c) q = (c, refl, (cc))

      other : (t : Bool) (o : Option (List Item)) → cond t none o ≡ some a → o ≡ some a
      other true o q = nothing-some q
      other false o q = q

      as-form : (f : Form) → g ≡ f → add n acc (decode f v) ≡ some a → (c : Content) × (decode g v ≡ some c) × (a ≡ acc ++ (item n c ∷ []))
      as-form f p q = go (decode g v) (ap (λ f. add n acc (decode f v)) p ∙ q)

      by : (r : Rule) → Has g r → by_rule r (strict_of k) n v acc ≡ some a → (c : Content) × (decode g v ≡ some c) × (a ≡ acc ++ (item n c ∷ []))
      by Unlisted p q = absurd p
      by Refused p q = absurd p
      by (Once f) p q = as-form f p (other (is_some (find n acc)) (add n acc (decode f v)) q)
      by (Single f) p q = as-form f p q
      by (Repeated f) p q = as-form f p q

  adds-items : (fs : List Field) (acc is : List Item) → items k fs acc ≡ some is → Adds n g (values_of n fs) acc is
  unfolding items
  adds-items [] acc is e = let q : acc ≡ is = cc in record { new = []; after = ap (contents n) (sym q) ∙ sym (append-nil (contents n acc)); each = tt }
  adds-items (field m v ∷ fs) acc is e =
      let i = then_some (step k (field m v) acc) (λ a. items k fs a) e in
      go i.0 (eqb n m) refl i.1 (adds-items fs i.0 is i.2)
    where
      go : (a : List Item) (t : Bool) → eqb n m ≡ t → step k (field m v) acc ≡ some a → Adds n g (values_of n fs) a is → Adds n g (cons_if t v (values_of n fs)) acc is
      go a true q s r =
          let j : n ≡ m = eqb-true n m q in
          let o = one v acc a (subst (λ (m : ℕ). step k (field m v) acc ≡ some a) (sym j) s) in
          let w : contents n a ≡ contents n acc ++ (o.0 ∷ [])
          = ap (contents n) o.2 ∙ contents-snoc n n o.0 acc ∙ ap (λ t. contents n acc ++ cons_if t o.0 []) (ap (eqb n) j ∙ q) in
          record { new = o.0 ∷ r.new; after = r.after ∙ ap (λ l. l ++ r.new) w ∙ append_assoc (contents n acc) (o.0 ∷ []) r.new; each = (o.1, r.each) }
      go a false q s r = record { new = r.new; after = r.after ∙ ap (λ l. l ++ r.new) (grown-other n m acc q (grown-rule (rule_of k m) (strict_of k) m v acc a s)); each = r.each }

  each_level : (s : List ℕ) (is : List Item) → level k s ≡ some is → Each g (values_in n s) (contents n is)
  unfolding level values_in
  each_level s is e = go (fields_of s) e
    where
      go : (o : Option (List Field)) → items_o k o [] ≡ some is → Each g (values_of n (or_nil o)) (contents n is)
      go none q = nothing-some q
      go (some fs) q = let r = adds-items fs [] is q in subst (λ (l : List Content). Each g (values_of n fs) l) (sym r.after) r.each

-- in the tree -------------------------------------------------------------------------------------
abbrev ints_c : List Content → List ℕ
ints_c [] = []
ints_c (c_int v ∷ cs) = v ∷ ints_c cs
ints_c (c_raw b ∷ cs) = ints_c cs
ints_c (c_fix b ∷ cs) = ints_c cs
ints_c (c_msg k b ∷ cs) = ints_c cs

abbrev raws_c : List Content → List (List ℕ)
raws_c [] = []
raws_c (c_int v ∷ cs) = raws_c cs
raws_c (c_raw b ∷ cs) = b ∷ raws_c cs
raws_c (c_fix b ∷ cs) = raws_c cs
raws_c (c_msg k b ∷ cs) = raws_c cs

abbrev subs_c : List Content → List Tree
subs_c [] = []
subs_c (c_int v ∷ cs) = subs_c cs
subs_c (c_raw b ∷ cs) = subs_c cs
subs_c (c_fix b ∷ cs) = subs_c cs
subs_c (c_msg k b ∷ cs) = tree_of k b ∷ subs_c cs

abbrev ReadC : List Content → Type 0
ReadC [] = Unit {0}
ReadC (c_int v ∷ cs) = ReadC cs
ReadC (c_raw b ∷ cs) = ReadC cs
ReadC (c_fix b ∷ cs) = ReadC cs
ReadC (c_msg k b ∷ cs) = Reads k b × ReadC cs

record Looks (n : ℕ) (cs : List Content) (t : Tree) : Type 0 where
  pub ints : ints_at n t ≡ ints_c cs
  pub raws : raws_at n t ≡ raws_c cs
  pub subs : subs_at n t ≡ subs_c cs
  pub read : ReadC cs

looks-int : (n v : ℕ) (t : Tree) (b : Bool) (m : ℕ) (cs : List Content) → eqb n m ≡ b → Looks n cs t → Looks n (cons_if b (c_int v) cs) (int m v t)
looks-int n v t true m cs e h = record { ints = ap₂ (λ b l. cons_if b v l) e h.ints; raws = h.raws; subs = h.subs; read = h.read }
looks-int n v t false m cs e h = record { ints = ap₂ (λ b l. cons_if b v l) e h.ints; raws = h.raws; subs = h.subs; read = h.read }

looks-raw : (n : ℕ) (x : List ℕ) (t : Tree) (b : Bool) (m : ℕ) (cs : List Content) → eqb n m ≡ b → Looks n cs t → Looks n (cons_if b (c_raw x) cs) (raw m x t)
looks-raw n x t true m cs e h = record { ints = h.ints; raws = ap₂ (λ b l. cons_if b x l) e h.raws; subs = h.subs; read = h.read }
looks-raw n x t false m cs e h = record { ints = h.ints; raws = ap₂ (λ b l. cons_if b x l) e h.raws; subs = h.subs; read = h.read }

looks-fix : (n : ℕ) (x : List ℕ) (t : Tree) (b : Bool) (m : ℕ) (cs : List Content) → Looks n cs t → Looks n (cons_if b (c_fix x) cs) (fix m x t)
looks-fix n x t true m cs h = record { ints = h.ints; raws = h.raws; subs = h.subs; read = h.read }
looks-fix n x t false m cs h = record { ints = h.ints; raws = h.raws; subs = h.subs; read = h.read }

looks-sub : (n : ℕ) (k : Kind) (x : List ℕ) (s t : Tree) (b : Bool) (m : ℕ) (cs : List Content) → eqb n m ≡ b → listed k x ≡ some s → Looks n cs t
    → Looks n (cons_if b (c_msg k x) cs) (sub m s t)
unfolding tree_of
looks-sub n k x s t true m cs e q h = record {
  ints = h.ints;
  raws = h.raws;
  subs = ap₂ (λ b l. cons_if b s l) e h.subs ∙ ap (λ u. u ∷ subs_c cs) (sym (ap tree_in q));
  read = (ap is_some q, h.read);
}
looks-sub n k x s t false m cs e q h = record { ints = h.ints; raws = h.raws; subs = ap₂ (λ b l. cons_if b s l) e h.subs; read = h.read }

looks-all : (n : ℕ) (is : List Item) (t : Tree) → open_all (λ k b. listed k b) is ≡ some t → Looks n (contents n is) t
unfolding open_all
looks-all n [] t e = let w : done ≡ t = cc in subst (λ (t : Tree). Looks n [] t) w (record { ints = refl; raws = refl; subs = refl; read = tt })
looks-all n (item m c ∷ is) t e =
    let i = then_some (open_all (λ k b. listed k b) is) (λ t. open_one (λ k b. listed k b) m c t) e in
    go c i.0 (looks-all n is i.0 i.1) i.2
  where
    go : (c : Content) (t0 : Tree) → Looks n (contents n is) t0 → open_one (λ k b. listed k b) m c t0 ≡ some t → Looks n (cons_if (eqb n m) c (contents n is)) t
    go (c_int v) t0 h q = let w : int m v t0 ≡ t = cc (q) in subst (λ (t : Tree). Looks n (cons_if (eqb n m) (c_int v) (contents n is)) t) w (looks-int n v t0 (eqb n m) m (contents n is) refl h)
    go (c_raw x) t0 h q = let w : raw m x t0 ≡ t = cc (q) in subst (λ (t : Tree). Looks n (cons_if (eqb n m) (c_raw x) (contents n is)) t) w (looks-raw n x t0 (eqb n m) m (contents n is) refl h)
    go (c_fix x) t0 h q = let w : fix m x t0 ≡ t = cc (q) in subst (λ (t : Tree). Looks n (cons_if (eqb n m) (c_fix x) (contents n is)) t) w (looks-fix n x t0 (eqb n m) m (contents n is) h)
    go (c_msg k x) t0 h q = inner (listed k x) refl q
      where
        inner : (o : Option Tree) → listed k x ≡ o → map_o (λ s. sub m s t0) o ≡ some t → Looks n (cons_if (eqb n m) (c_msg k x) (contents n is)) t
        inner none r q = nothing-some q
        inner (some s) r q =
            let w : sub m s t0 ≡ t = cc (q) in
            subst (λ (t : Tree). Looks n (cons_if (eqb n m) (c_msg k x) (contents n is)) t) w (looks-sub n k x s t0 (eqb n m) m (contents n is) refl r h)

-- the values as the forms read them ----------------------------------------------------------------
-- a form that keeps a number as it stands, and nothing else
abbrev Keeps : Form → Type 0
Keeps f = (v : Value) (c : Content) → decode f v ≡ some c → (x : ℕ) × (v ≡ vint x) × (c ≡ c_int x)

guarded : (t : Bool) (v : ℕ) (c : Content) → guard t (c_int v) ≡ some c → (x : ℕ) × (vint v ≡ vint x) × (c ≡ c_int x)
guarded true v c e = (v, refl, (cc))
guarded false v c e = nothing-some e

keeps-int32 : Keeps Int32
keeps-int32 (vint v) c e = guarded (is_int32 v) v c e
keeps-int32 (v64 b) c e = nothing-some e
keeps-int32 (vlen b) c e = nothing-some e
keeps-int32 (v32 b) c e = nothing-some e

keeps-named : (e : Names) → Keeps (Named e)
keeps-named e (vint v) c q = guarded (among v (names_of e)) v c q
keeps-named e (v64 b) c q = nothing-some q
keeps-named e (vlen b) c q = nothing-some q
keeps-named e (v32 b) c q = nothing-some q

each_ints : (f : Form) → Keeps f → (vs : List Value) (cs : List Content) → Each f vs cs → numbers_of vs ≡ ints_c cs
each_ints f g [] [] h = refl
each_ints f g [] (c ∷ cs) h = absurd h
each_ints f g (v ∷ vs) [] h = absurd h
each_ints f g (v ∷ vs) (c ∷ cs) h =
    let i = g v c h.0 in
    ap (λ v. numbers_of (v ∷ vs)) i.1 ∙ ap (λ l. i.0 ∷ l) (each_ints f g vs cs h.1) ∙ ap (λ c. ints_c (c ∷ cs)) (sym i.2)

guard-true : (t : Bool) (v : ℕ) {c : Content} → guard t (c_int v) ≡ some c → t ≡ true
guard-true true v e = refl
guard-true false v e = nothing-some e

each-among : (e : Names) (vs : List Value) (cs : List Content) → Each (Named e) vs cs → AllAmong (names_of e) (numbers_of vs)
each-among e [] cs h = tt
each-among e (v ∷ vs) [] h = absurd h
each-among e (vint v ∷ vs) (c ∷ cs) h = (guard-true (among v (names_of e)) v h.0, each-among e vs cs h.1)
each-among e (v64 b ∷ vs) (c ∷ cs) h = tt
each-among e (vlen b ∷ vs) (c ∷ cs) h = tt
each-among e (v32 b ∷ vs) (c ∷ cs) h = tt

each-raws : (vs : List Value) (cs : List Content) → Each Bytes vs cs → parts_of vs ≡ raws_c cs
each-raws [] [] h = refl
each-raws [] (c ∷ cs) h = absurd h
each-raws (v ∷ vs) [] h = absurd h
each-raws (vint v ∷ vs) (c ∷ cs) h = nothing-some h.0
each-raws (v64 b ∷ vs) (c ∷ cs) h = nothing-some h.0
each-raws (vlen b ∷ vs) (c ∷ cs) h =
    let q = h.0 in
    let w : c_raw b ≡ c = cc (q) in
    subst (λ (c : Content). b ∷ parts_of vs ≡ raws_c (c ∷ cs)) w (ap (λ l. b ∷ l) (each-raws vs cs h.1))
each-raws (v32 b ∷ vs) (c ∷ cs) h = nothing-some h.0

each-subs : (k : Kind) (vs : List Value) (cs : List Content) → Each (Nested k) vs cs → ReadC cs → (trees_of k (parts_of vs) ≡ subs_c cs) × AllRead k (parts_of vs)
each-subs k [] [] h r = (refl, tt)
each-subs k [] (c ∷ cs) h r = absurd h
each-subs k (v ∷ vs) [] h r = absurd h
each-subs k (vint v ∷ vs) (c ∷ cs) h r = nothing-some h.0
each-subs k (v64 b ∷ vs) (c ∷ cs) h r = nothing-some h.0
each-subs k (vlen b ∷ vs) (c ∷ cs) h r =
    let q = h.0 in
    let w : c ≡ c_msg k b = cc (q) in
    let s : ReadC (c_msg k b ∷ cs) = subst (λ (c : Content). ReadC (c ∷ cs)) w r in
    let i = each-subs k vs cs h.1 s.1 in
    (subst (λ (c : Content). tree_of k b ∷ trees_of k (parts_of vs) ≡ subs_c (c ∷ cs)) (sym w) (ap (λ l. tree_of k b ∷ l) i.0), (s.0, i.1))
each-subs k (v32 b ∷ vs) (c ∷ cs) h r = nothing-some h.0

-- THE LAWS -----------------------------------------------------------------------------------------
module _ (k : Kind) (m : List ℕ) (y : Reads k m) (n : ℕ) where
  ints_of : (f : Form) → Keeps f → Has f (rule_of k n) → ints_at n (tree_of k m) ≡ numbers_in n m
  ints_of f g q =
      let i = level-of k m y in
      (looks-all n i.0 (tree_of k m) i.2).ints ∙ sym (each_ints f g (values_in n m) (contents n i.0) (each_level k n f q m i.0 i.1))

  pub repeated-ints : Has Int32 (rule_of k n) → ints_at n (tree_of k m) ≡ numbers_in n m
  repeated-ints q = ints_of Int32 keeps-int32 q

  pub repeated-named : (e : Names) → Has (Named e) (rule_of k n) → ints_at n (tree_of k m) ≡ numbers_in n m
  repeated-named e q = ints_of (Named e) (keeps-named e) q

  pub repeated-among : (e : Names) → Has (Named e) (rule_of k n) → AllAmong (names_of e) (numbers_in n m)
  repeated-among e q = let i = level-of k m y in each-among e (values_in n m) (contents n i.0) (each_level k n (Named e) q m i.0 i.1)

  pub repeated-raws : Has Bytes (rule_of k n) → raws_at n (tree_of k m) ≡ parts_in n m
  repeated-raws q =
      let i = level-of k m y in
      (looks-all n i.0 (tree_of k m) i.2).raws ∙ sym (each-raws (values_in n m) (contents n i.0) (each_level k n Bytes q m i.0 i.1))

  pub repeated-subs : (k' : Kind) → Has (Nested k') (rule_of k n) → subs_at n (tree_of k m) ≡ trees_of k' (parts_in n m)
  repeated-subs k' q =
      let i = level-of k m y in
      let l = looks-all n i.0 (tree_of k m) i.2 in
      l.subs ∙ sym (each-subs k' (values_in n m) (contents n i.0) (each_level k n (Nested k') q m i.0 i.1) l.read).0

  pub repeated-reads : (k' : Kind) → Has (Nested k') (rule_of k n) → AllRead k' (parts_in n m)
  repeated-reads k' q =
      let i = level-of k m y in
      let l = looks-all n i.0 (tree_of k m) i.2 in
      (each-subs k' (values_in n m) (contents n i.0) (each_level k n (Nested k') q m i.0 i.1) l.read).1

pub reads-framed : (k : Kind) (m : List ℕ) → Reads k m → WellFramed m
unfolding level
reads-framed k m y = go (fields_of m) (level-of k m y).1
  where
    go : (o : Option (List Field)) {is : List Item} → items_o k o [] ≡ some is → is_some o ≡ true
    go none e = nothing-some e
    go (some fs) e = refl
