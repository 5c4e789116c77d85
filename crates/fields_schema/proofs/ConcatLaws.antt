-- The concatenation of two messages reads as the two merged.
use Rattle.std.specs.Prelude.{ℕ, ◌≡◌, refl, Bool, true, false, cond, eqb}
use Rattle.std.proofs.Math.Path.{sym, ap, fun_ext}
use Rattle.std.proofs.Common.{◌∙◌}
use mathlib.Core.List.{List, [], ◌∷◌, ◌++◌, append_assoc, append-nil}
use Rattle.std.proofs.Math.Option.{Option, none, some}
use Rattle.fields_wire.specs.Wire.{Value, Field, field, fields_of}
use Rattle.fields_wire.specs.Appended.{append_o}
use Rattle.fields_wire.specs.WireLaws.{fields-append}
use Rattle.fields_schema.specs.Rules.{strict_of, rule_of}
use Rattle.fields_schema.specs.Tree.{map_o, then_o, guard, is_some, among, Content, c_int, c_raw, c_fix, c_msg, Item, item, decode, find, add, by_rule, step, items, items_o, level}
use Rattle.fields_schema.specs.Tree.{Tree, done, int, raw, fix, sub, open_one, open_all, listed, later, int_at, raw_at, join}
use Rattle.fields_schema.specs.Concat.{once_numbers, tree_numbers, in_both, none_in_both, apart, merged, is_once}
use Rattle.fields_schema.proofs.LevelLaws.{then-none}
use Rattle.fields_schema.proofs.MergedLaws.{int-join, raw-join, open-append}
use Rattle.fields_schema.proofs.DepthLaws.{listed-opens}
use Rattle.fields_schema.proofs.OnceLaws.{once-numbers, among-append, none-in-both, both-last, plain-apart}
use Rattle.fields_schema.specs.declared.Kind.{Kind}
use Rattle.fields_schema.proofs.OptionLaws.{nothing-some, then_some, guard-some}
use Rattle.fields_schema.specs.declared.Rule.{Rule}
use Rattle.fields_schema.specs.declared.Rule.TheVariants.{Unlisted, Refused, Once, Single, Repeated}
use Rattle.fields_schema.specs.Said.{item_numbers, said}

then-assoc : {A B C : Type 0} (o : Option A) (f : A → Option B) (g : B → Option C) → then_o (then_o o f) g ≡ then_o o (λ a. then_o (f a) g)
then-assoc none f g = refl
then-assoc (some a) f g = refl

then-self : {A : Type 0} (o : Option A) → then_o o (λ a. some a) ≡ o
then-self none = refl
then-self (some a) = refl

numbers-append : (is js : List Item) → item_numbers (is ++ js) ≡ item_numbers is ++ item_numbers js
numbers-append [] js = refl
numbers-append (item n c ∷ is) js = ap (λ l. n ∷ l) (numbers-append is js)

found : (n : ℕ) (is : List Item) → is_some (find n is) ≡ among n (item_numbers is)
found n [] = refl
found n (item m c ∷ is) = go (eqb n m) (found n is)
  where
    go : (t : Bool) → is_some (find n is) ≡ among n (item_numbers is) → is_some (cond t (some c) (find n is)) ≡ cond t true (among n (item_numbers is))
    go true e = refl
    go false e = e

module _ (os : List ℕ) where
  -- the items b of a message after the items a of another
  abbrev after : List Item → List Item → Option (List Item)
  after a b = guard (none_in_both os (item_numbers a) (item_numbers b)) (a ++ b)

  after_none : (a : List Item) → after a [] ≡ some a
  after_none a = ap (λ t. guard t (a ++ [])) (none-in-both os (item_numbers a)) ∙ ap some (append-nil a)

  after_last : (a b : List Item) (n : ℕ) (c : Content)
      → after a (b ++ (item n c ∷ [])) ≡ cond (in_both n os (item_numbers a)) none (then_o (after a b) (λ x. some (x ++ (item n c ∷ []))))
  after_last a b n c =
      ap (λ l. guard (none_in_both os (item_numbers a) l) (a ++ (b ++ (item n c ∷ [])))) (numbers-append b (item n c ∷ []))
      ∙ ap (λ t. guard t (a ++ (b ++ (item n c ∷ [])))) (both-last os (item_numbers a) (item_numbers b) n)
      ∙ go (in_both n os (item_numbers a)) (none_in_both os (item_numbers a) (item_numbers b))
    where
      go : (p q : Bool) → guard (cond p false q) (a ++ (b ++ (item n c ∷ []))) ≡ cond p none (then_o (guard q (a ++ b)) (λ x. some (x ++ (item n c ∷ []))))
      go true q = refl
      go false true = ap some (sym (append_assoc a b (item n c ∷ [])))
      go false false = refl

  -- a field that may be sent again
  free : (n : ℕ) (a b : List Item) (o : Option Content) → among n os ≡ false → then_o (after a b) (λ x. add n x o) ≡ then_o (add n b o) (λ x. after a x)
  free n a b none h = then-none (after a b)
  free n a b (some c) h =
      sym (after_last a b n c ∙ ap (λ t. cond (cond t (among n (item_numbers a)) false) none (then_o (after a b) (λ x. some (x ++ (item n c ∷ []))))) h)

  -- a field that may be sent only once
  only : (n : ℕ) (a b : List Item) (o : Option Content) → among n os ≡ true
      → then_o (after a b) (λ x. cond (is_some (find n x)) none (add n x o)) ≡ then_o (cond (is_some (find n b)) none (add n b o)) (λ x. after a x)
  only n a b none h = nothing (after a b) ∙ sym (ap (λ o. then_o o (λ x. after a x)) (same (is_some (find n b))))
    where
      same : (t : Bool) → cond {A = Option (List Item)} t none none ≡ none
      same true = refl
      same false = refl

      nothing : (o : Option (List Item)) → then_o {B = List Item} o (λ x. cond (is_some (find n x)) none none) ≡ none
      nothing none = refl
      nothing (some x) = same (is_some (find n x))
  only n a b (some c) h =
      one (none_in_both os (item_numbers a) (item_numbers b)) (is_some (find n b)) (among n (item_numbers a))
      (found n (a ++ b) ∙ ap (among n) (numbers-append a b) ∙ among-append n (item_numbers a) (item_numbers b) ∙ ap (cond (among n (item_numbers a)) true) (sym (found n b)))
      ∙ sym (ap (λ o. cond (is_some (find n b)) none o) (after_last a b n c ∙ ap (λ t. cond (cond t (among n (item_numbers a)) false) none (then_o (after a b) (λ x. some (x ++ (item n c ∷ []))))) h))
      ∙ chosen (is_some (find n b))
    where
      chosen : (t : Bool) → cond t none (after a (b ++ (item n c ∷ []))) ≡ then_o (cond t none (some (b ++ (item n c ∷ [])))) (λ x. after a x)
      chosen true = refl
      chosen false = refl

      one : (p q r : Bool) → is_some (find n (a ++ b)) ≡ cond r true q
          → then_o (guard p (a ++ b)) (λ x. cond (is_some (find n x)) none (some (x ++ (item n c ∷ []))))
          ≡ cond q none (cond r none (then_o (guard p (a ++ b)) (λ x. some (x ++ (item n c ∷ [])))))
      one false true r e = refl
      one false false true e = refl
      one false false false e = refl
      one true q r e = ap (λ t. cond t none (some ((a ++ b) ++ (item n c ∷ [])))) e ∙ last q r
        where
          last : (q r : Bool) → cond (cond r true q) none (some ((a ++ b) ++ (item n c ∷ []))) ≡ cond q none (cond r none (some ((a ++ b) ++ (item n c ∷ []))))
          last true true = refl
          last true false = refl
          last false true = refl
          last false false = refl

  rule-after : (r : Rule) (st : Bool) (n : ℕ) (v : Value) (a b : List Item) → is_once r ≡ among n os
      → then_o (after a b) (λ x. by_rule r st n v x) ≡ then_o (by_rule r st n v b) (λ x. after a x)
  rule-after Unlisted true n v a b h = then-none (after a b)
  rule-after Unlisted false n v a b h = then-self (after a b)
  rule-after Refused st n v a b h = then-none (after a b)
  rule-after (Single f) st n v a b h = free n a b (decode f v) (sym h)
  rule-after (Repeated f) st n v a b h = free n a b (decode f v) (sym h)
  rule-after (Once f) st n v a b h = only n a b (decode f v) (sym h)

  items-after : (k : Kind) → ((n : ℕ) → is_once (rule_of k n) ≡ among n os) → (fs : List Field) (a b : List Item)
      → then_o (after a b) (λ x. items k fs x) ≡ then_o (items k fs b) (λ x. after a x)
  unfolding items
  items-after k h [] a b = then-self (after a b)
  items-after k h (field n v ∷ fs) a b =
      sym (then-assoc (after a b) (λ x. step k (field n v) x) (λ x. items k fs x))
      ∙ ap (λ o. then_o o (λ x. items k fs x)) (rule-after (rule_of k n) (strict_of k) n v a b (h n))
      ∙ then-assoc (step k (field n v) b) (λ x. after a x) (λ x. items k fs x)
      ∙ ap (then_o (step k (field n v) b)) (fun_ext (λ x. items-after k h fs a x))
      ∙ sym (then-assoc (step k (field n v) b) (λ x. items k fs x) (λ x. after a x))

pub items-append : (k : Kind) (fs gs : List Field) (acc : List Item) → items k (fs ++ gs) acc ≡ then_o (items k fs acc) (λ a. items k gs a)
unfolding items
items-append k [] gs acc = refl
items-append k (f ∷ fs) gs acc =
    ap (then_o (step k f acc)) (fun_ext (λ a. items-append k fs gs a)) ∙ sym (then-assoc (step k f acc) (λ a. items k fs a) (λ a. items k gs a))

-- the items of two messages, each read by itself
pub items-both : (k : Kind) (fs gs : List Field) → items k (fs ++ gs) [] ≡ then_o (items k fs []) (λ a. then_o (items k gs []) (λ b. after (once_numbers k) a b))
unfolding items
items-both k fs gs =
    items-append k fs gs []
    ∙ ap (then_o (items k fs []))
    (fun_ext (λ a. ap (λ o. then_o o (λ x. items k gs x)) (sym (after_none (once_numbers k) a)) ∙ items-after (once_numbers k) k (once-numbers k) gs a []))

-- every level ---------------------------------------------------------------------------------------------------------------

listed-said : (k : Kind) (m : List ℕ) → listed k m ≡ then_o (fields_of m) (λ fs. said k fs)
unfolding level
listed-said k m = listed-opens k m ∙ go (fields_of m)
  where
    go : (o : Option (List Field)) → then_o (items_o k o []) (λ is. open_all (λ k b. listed k b) is) ≡ then_o o (λ fs. said k fs)
    go none = refl
    go (some fs) = refl

pub framed-said : (k : Kind) (m : List ℕ) {fs : List Field} → fields_of m ≡ some fs → listed k m ≡ said k fs
framed-said k m e = listed-said k m ∙ ap (λ o. then_o o (λ fs. said k fs)) e

pub opened-numbers : (below : Kind → List ℕ → Option Tree) (is : List Item) {t : Tree} → open_all below is ≡ some t → tree_numbers t ≡ item_numbers is
unfolding open_all
opened-numbers below [] {t} e = let q : done ≡ t = cc in ap tree_numbers (sym q)
opened-numbers below (item n c ∷ is) {t} e =
    let i = then_some (open_all below is) (λ t. open_one below n c t) e in go c i.0 i.2 ∙ ap (λ l. n ∷ l) (opened-numbers below is i.1)
  where
    mapped : (u : Tree) (o : Option Tree) → map_o (λ s. sub n s u) o ≡ some t → tree_numbers t ≡ n ∷ tree_numbers u
    mapped u none q = nothing-some q
    mapped u (some s) q = let h : sub n s u ≡ t = cc in ap tree_numbers (sym h)

    go : (c : Content) (u : Tree) → open_one below n c u ≡ some t → tree_numbers t ≡ n ∷ tree_numbers u
    go (c_int v) u q = let h : int n v u ≡ t = cc in ap tree_numbers (sym h)
    go (c_raw b) u q = let h : raw n b u ≡ t = cc in ap tree_numbers (sym h)
    go (c_fix b) u q = let h : fix n b u ≡ t = cc in ap tree_numbers (sym h)
    go (c_msg k b) u q = mapped u (below k b) q

open_after : (k : Kind) (below : Kind → List ℕ → Option Tree) (a b : List Item)
    → then_o (after (once_numbers k) a b) (λ is. open_all below is) ≡ then_o (open_all below a) (λ t. then_o (open_all below b) (λ u. merged k t u))
open_after k below a b =
    go (open_all below a) (open_all below b) (none_in_both (once_numbers k) (item_numbers a) (item_numbers b)) (open-append below a b)
    (λ t u p q. ap (λ l. none_in_both (once_numbers k) l (item_numbers b)) (sym (opened-numbers below a p)) ∙ ap (λ l. none_in_both (once_numbers k) (tree_numbers t) l) (sym (opened-numbers below b q)))
  where
    go : (x y : Option Tree) (p : Bool) → open_all below (a ++ b) ≡ then_o x (λ t. map_o (λ u. join t u) y)
        → ((t u : Tree) → x ≡ some t → y ≡ some u → p ≡ apart k t u)
        → then_o (guard p (a ++ b)) (λ is. open_all below is) ≡ then_o x (λ t. then_o y (λ u. merged k t u))
    go none y true e h = e
    go none y false e h = refl
    go (some t) none true e h = e
    go (some t) none false e h = refl
    go (some t) (some u) true e h = e ∙ ap (λ p. guard p (join t u)) (h t u refl refl)
    go (some t) (some u) false e h = ap (λ p. guard p (join t u)) (h t u refl refl)

pub said-append : (k : Kind) (fs gs : List Field) → said k (fs ++ gs) ≡ then_o (said k fs) (λ t. then_o (said k gs) (λ u. merged k t u))
said-append k fs gs = ap (λ o. then_o o (λ is. open_all (λ k b. listed k b) is)) (items-both k fs gs) ∙ go (items k fs []) (items k gs [])
  where
    go : (x y : Option (List Item))
        → then_o (then_o x (λ a. then_o y (λ b. after (once_numbers k) a b))) (λ is. open_all (λ k b. listed k b) is)
        ≡ then_o (then_o x (λ is. open_all (λ k b. listed k b) is)) (λ t. then_o (then_o y (λ is. open_all (λ k b. listed k b) is)) (λ u. merged k t u))
    go none y = refl
    go (some a) none = sym (then-none (open_all (λ k b. listed k b) a))
    go (some a) (some b) = open_after k (λ k b. listed k b) a b

-- of two strings, the first well framed: each must decode, and they are merged
pub listed-append : (k : Kind) (x y : List ℕ) {fs : List Field} → fields_of x ≡ some fs
    → listed k (x ++ y) ≡ then_o (listed k x) (λ t. then_o (listed k y) (λ u. merged k t u))
listed-append k x y {fs} e =
    listed-said k (x ++ y) ∙ ap (λ o. then_o o (λ fs. said k fs)) (fields-append x y e) ∙ go (fields_of y)
    ∙ ap (λ o. then_o (said k fs) (λ t. then_o o (λ u. merged k t u))) (sym (listed-said k y))
    ∙ ap (λ o. then_o o (λ t. then_o (listed k y) (λ u. merged k t u))) (sym (framed-said k x e))
  where
    go : (o : Option (List Field)) → then_o (append_o fs o) (λ fs. said k fs) ≡ then_o (said k fs) (λ t. then_o (then_o o (λ fs. said k fs)) (λ u. merged k t u))
    go none = sym (then-none (said k fs))
    go (some gs) = said-append k fs gs

-- the statements -----------------------------------------------------------------------------------------------------------

-- what decodes is well framed
pub listed-framed : (k : Kind) (m : List ℕ) {t : Tree} → listed k m ≡ some t → (fs : List Field) × (fields_of m ≡ some fs) × (said k fs ≡ some t)
listed-framed k m e = then_some (fields_of m) (λ fs. said k fs) (sym (listed-said k m) ∙ e)

-- MERGED: "embedded messages are merged": the concatenation of two messages reads as the two merged
pub merge-concat : (k : Kind) (m₁ m₂ : List ℕ) {t₁ t₂ : Tree} → listed k m₁ ≡ some t₁ → listed k m₂ ≡ some t₂ → listed k (m₁ ++ m₂) ≡ merged k t₁ t₂
merge-concat k m₁ m₂ {t₁} {t₂} p q =
    listed-append k m₁ m₂ (listed-framed k m₁ p).1 ∙ ap (λ o. then_o o (λ t. then_o (listed k m₂) (λ u. merged k t u))) p
    ∙ ap (λ o. then_o o (λ u. merged k t₁ u)) q

-- in a kind without numbers that may be sent only once
pub merge-plain : (k : Kind) (m₁ m₂ : List ℕ) {t₁ t₂ : Tree} → once_numbers k ≡ [] → listed k m₁ ≡ some t₁ → listed k m₂ ≡ some t₂
    → listed k (m₁ ++ m₂) ≡ some (join t₁ t₂)
merge-plain k m₁ m₂ {t₁} {t₂} h p q =
    merge-concat k m₁ m₂ p q ∙ ap (λ b. guard b (join t₁ t₂)) (plain-apart k t₁ t₂ h)

-- EACH DECODES: "each occurrence must still decode": the first
pub first-decodes : (k : Kind) (x y : List ℕ) {fs : List Field} → fields_of x ≡ some fs → listed k x ≡ none → listed k (x ++ y) ≡ none
first-decodes k x y e h = listed-append k x y e ∙ ap (λ o. then_o o (λ t. then_o (listed k y) (λ u. merged k t u))) h

-- and what follows
pub rest-decodes : (k : Kind) (x y : List ℕ) {fs : List Field} → fields_of x ≡ some fs → listed k y ≡ none → listed k (x ++ y) ≡ none
rest-decodes k x y e h = listed-append k x y e ∙ ap (λ o. then_o (listed k x) (λ t. then_o o (λ u. merged k t u))) h ∙ then-none (listed k x)

-- what decodes behind whole fields is two messages merged
pub listed-split : (k : Kind) (x y : List ℕ) {fs : List Field} {t : Tree} → fields_of x ≡ some fs → listed k (x ++ y) ≡ some t
    → (t₁ : Tree) × (t₂ : Tree) × (listed k x ≡ some t₁) × (listed k y ≡ some t₂) × (join t₁ t₂ ≡ t)
listed-split k x y f e =
    let i = then_some (listed k x) (λ t. then_o (listed k y) (λ u. merged k t u)) (sym (listed-append k x y f) ∙ e) in
    let j = then_some (listed k y) (λ u. merged k i.0 u) i.2 in
    (i.0, j.0, i.1, j.1, (guard-some (apart k i.0 j.0) j.2).1)

-- LAST COUNTS: "the last scalar or bytes value counts", a 0 and empty bytes too
module _ (k : Kind) (m₁ m₂ : List ℕ) {t₁ t₂ t : Tree} (p : listed k m₁ ≡ some t₁) (q : listed k m₂ ≡ some t₂) (e : listed k (m₁ ++ m₂) ≡ some t) where
  both : join t₁ t₂ ≡ t
  both = (guard-some (apart k t₁ t₂) (sym (merge-concat k m₁ m₂ p q) ∙ e)).1

  pub last-int : (n : ℕ) → int_at n t ≡ later (int_at n t₂) (int_at n t₁)
  last-int n = ap (int_at n) (sym both) ∙ int-join n t₁ t₂

  pub last-raw : (n : ℕ) → raw_at n t ≡ later (raw_at n t₂) (raw_at n t₁)
  last-raw n = ap (raw_at n) (sym both) ∙ raw-join n t₁ t₂
