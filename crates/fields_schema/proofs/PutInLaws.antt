-- Fields put in outside the security part change nothing of what a message says; and a replaced field of bytes changes those bytes only.
use Prim.Native.Nat.{ℕ, zero, suc, ◌+◌}
use Rattle.std.proofs.Common.{arith, sym, ap, ◌∙◌, subst, subst₂, ap₂}
use Rattle.std.specs.Prelude.{◌≡◌, refl, Bool, true, false, cond, eqb}
use mathlib.Core.List.{List, [], ◌∷◌, ◌++◌}
use Rattle.std.proofs.Math.Option.{Option, none, some}
use Rattle.fields_wire.specs.Wire.{Value, vlen, Field, field, fields_of, Framed}
use Rattle.fields_schema.specs.Rules.{strict_of, rule_of}
use Rattle.fields_schema.specs.Tree.{map_o, then_o, Content, c_int, c_raw, c_fix, c_msg, Item, item, of_bytes, decode, find, is_some, add, by_rule, step, items, items_o, level}
use Rattle.fields_schema.specs.Tree.{Tree, int, raw, fix, sub, open_one, open_all, listed_in, listed}
use Rattle.fields_schema.specs.PutIn.{Has, in_security, Replaces, Nothing, PutIn, EqualBut, EqualButO}
use Rattle.fields_schema.proofs.LevelLaws.{items-front, step-unlisted, items-unlisted}
use Rattle.fields_schema.specs.declared.Kind.{Kind}
use Rattle.fields_schema.specs.declared.Kind.TheVariants.{Message, HmacAuth, Command, Header, Body, KeyValue, Range, Setup, GetLog, Security, Acl, Scope, ReplyCommand, ReplyBody, ReplyRange, ReplyGetLog, Utilization, Temperature, Capacity, Limits, Status}
use Rattle.fields_schema.specs.declared.Form.{Form}
use Rattle.fields_schema.specs.declared.Form.TheVariants.{Bytes, Opaque, Nested}
use Rattle.fields_schema.specs.declared.Rule.{Rule}
use Rattle.fields_schema.specs.declared.Rule.TheVariants.{Unlisted, Refused, Once, Single, Repeated}

-- the security part is where the table is strict
pub security-strict : (k : Kind) → in_security k ≡ cond (strict_of k) 1 0
security-strict Message = refl
security-strict HmacAuth = refl
security-strict Command = refl
security-strict Header = refl
security-strict Body = refl
security-strict KeyValue = refl
security-strict Range = refl
security-strict Setup = refl
security-strict GetLog = refl
security-strict Security = refl
security-strict Acl = refl
security-strict Scope = refl
security-strict ReplyCommand = refl
security-strict ReplyBody = refl
security-strict ReplyRange = refl
security-strict ReplyGetLog = refl
security-strict Utilization = refl
security-strict Temperature = refl
security-strict Capacity = refl
security-strict Limits = refl
security-strict Status = refl

none-strict : (t : Bool) (c : ℕ) → cond t 1 0 + c ≡ 0 → (t ≡ false) × (c ≡ 0)
none-strict true c e = absurd (omega arith)
none-strict false c e = (refl, omega arith)

module _ (R : Replaces) where
  -- contents of the field n of kind k that open to trees equal but for what R allows
  data Like (k : Kind) (n : ℕ) : Content → Content → Type 0 where
    equal : (c : Content) → Like k n c c
    change : (b b' : List ℕ) → R k n b b' → Like k n (c_raw b) (c_raw b')
    inner : (k' : Kind) (b b' : List ℕ) → Has (Nested k') (rule_of k n) → ((d : ℕ) → EqualButO R k' (listed_in d k' b) (listed_in d k' b'))
        → Like k n (c_msg k' b) (c_msg k' b')

  data LikeO (k : Kind) (n : ℕ) : Option Content → Option Content → Type 0 where
    nones : LikeO k n none none
    somes : {c c' : Content} → Like k n c c' → LikeO k n (some c) (some c')

  data Alike (k : Kind) : List Item → List Item → Type 0 where
    nil : Alike k [] []
    cons : {is js : List Item} {c c' : Content} (n : ℕ) → Like k n c c' → Alike k is js → Alike k (item n c ∷ is) (item n c' ∷ js)

  data AlikeO (k : Kind) : Option (List Item) → Option (List Item) → Type 0 where
    nones : AlikeO k none none
    somes : {is js : List Item} → Alike k is js → AlikeO k (some is) (some js)

  like-refl : (k : Kind) (n : ℕ) (o : Option Content) → LikeO k n o o
  like-refl k n none = LikeO.nones
  like-refl k n (some c) = LikeO.somes (equal c)

  -- alike items open to equal trees ------------------------------------------------------------------------------

  map-equal : (k : Kind) (n : ℕ) (u : Option Tree) {t t' : Tree} → EqualBut R k t t' → EqualButO R k (map_o (λ s. sub n s t) u) (map_o (λ s. sub n s t') u)
  map-equal k n none h = EqualButO.nones
  map-equal k n (some u) h = EqualButO.somes (EqualBut.equal n u h)

  map-subs : (k : Kind) (n : ℕ) (k' : Kind) {u u' : Option Tree} {t t' : Tree} → Has (Nested k') (rule_of k n) → EqualButO R k' u u' → EqualBut R k t t'
      → EqualButO R k (map_o (λ s. sub n s t) u) (map_o (λ s. sub n s t') u')
  map-subs k n k' g EqualButO.nones h = EqualButO.nones
  map-subs k n k' g (EqualButO.somes r) h = EqualButO.somes (EqualBut.subs n k' g r h)

  like-open : (d : ℕ) (k : Kind) (n : ℕ) {c c' : Content} {t t' : Tree} → Like k n c c' → EqualBut R k t t'
      → EqualButO R k (open_one (λ k b. listed_in d k b) n c t) (open_one (λ k b. listed_in d k b) n c' t')
  like-open d k n (equal (c_int v)) h = EqualButO.somes (EqualBut.ints n v h)
  like-open d k n (equal (c_raw b)) h = EqualButO.somes (EqualBut.raws n b h)
  like-open d k n (equal (c_fix b)) h = EqualButO.somes (EqualBut.fixs n b h)
  like-open d k n (equal (c_msg k' b)) h = map-equal k n (listed_in d k' b) h
  like-open d k n (change b b' r) h = EqualButO.somes (EqualBut.replaced n b b' r h)
  like-open d k n (inner k' b b' g e) h = map-subs k n k' g (e d) h

  open-then : (k : Kind) {o p : Option Tree} (g g' : Tree → Option Tree) → EqualButO R k o p
      → ((t t' : Tree) → EqualBut R k t t' → EqualButO R k (g t) (g' t')) → EqualButO R k (then_o o g) (then_o p g')
  open-then k g g' EqualButO.nones f = EqualButO.nones
  open-then k g g' (EqualButO.somes {t = t} {t' = t'} h) f = f t t' h

  alike-open : (d : ℕ) (k : Kind) {is js : List Item} → Alike k is js
      → EqualButO R k (open_all (λ k b. listed_in d k b) is) (open_all (λ k b. listed_in d k b) js)
  unfolding open_all
  alike-open d k nil = EqualButO.somes (EqualBut.dones k)
  alike-open d k (cons {is = is} {js = js} {c = c} {c' = c'} n h r) =
      open-then k (λ t. open_one (λ k b. listed_in d k b) n c t) (λ t. open_one (λ k b. listed_in d k b) n c' t) (alike-open d k r)
      (λ t t' q. like-open d k n h q)

  alike_o-open : (d : ℕ) (k : Kind) {o p : Option (List Item)} → AlikeO k o p
      → EqualButO R k (then_o o (λ is. open_all (λ k b. listed_in d k b) is)) (then_o p (λ is. open_all (λ k b. listed_in d k b) is))
  alike_o-open d k nones = EqualButO.nones
  alike_o-open d k (somes h) = alike-open d k h

  -- a field keeps items alike -------------------------------------------------------------------------------------

  alike-snoc : (k : Kind) {is js : List Item} {c c' : Content} (n : ℕ) → Like k n c c' → Alike k is js
      → Alike k (is ++ (item n c ∷ [])) (js ++ (item n c' ∷ []))
  alike-snoc k n h nil = cons n h nil
  alike-snoc k n h (cons m g r) = cons m g (alike-snoc k n h r)

  alike-find : (k : Kind) (n : ℕ) {is js : List Item} → Alike k is js → is_some (find n is) ≡ is_some (find n js)
  alike-find k n nil = refl
  alike-find k n (cons {is = is} {js = js} {c = c} {c' = c'} m g r) = go (eqb n m) (alike-find k n r)
    where
      go : (t : Bool) → is_some (find n is) ≡ is_some (find n js) → is_some (cond t (some c) (find n is)) ≡ is_some (cond t (some c') (find n js))
      go true e = refl
      go false e = e

  alike-add : (k : Kind) (n : ℕ) {acc acc' : List Item} {o o' : Option Content} → Alike k acc acc' → LikeO k n o o'
      → AlikeO k (add n acc o) (add n acc' o')
  alike-add k n h LikeO.nones = AlikeO.nones
  alike-add k n h (LikeO.somes g) = AlikeO.somes (alike-snoc k n g h)

  alike-unless : (k : Kind) (t : Bool) {o o' : Option (List Item)} → AlikeO k o o' → AlikeO k (cond t none o) (cond t none o')
  alike-unless k true h = AlikeO.nones
  alike-unless k false h = h

  alike-rule : (k : Kind) (r : Rule) (st : Bool) (n : ℕ) (v v' : Value) {acc acc' : List Item}
      → ((f : Form) → Has f r → LikeO k n (decode f v) (decode f v')) → Alike k acc acc' → AlikeO k (by_rule r st n v acc) (by_rule r st n v' acc')
  alike-rule k Unlisted st n v v' g h = alike-unless k st (AlikeO.somes h)
  alike-rule k Refused st n v v' g h = AlikeO.nones
  alike-rule k (Single f) st n v v' g h = alike-add k n h (g f refl)
  alike-rule k (Once f) st n v v' {acc} {acc'} g h =
      rw (alike-find k n h) (alike-unless k (is_some (find n acc')) (alike-add k n h (g f refl)))
  alike-rule k (Repeated f) st n v v' g h = alike-add k n h (g f refl)

  alike-step : (k : Kind) (f : Field) {acc acc' : List Item} → Alike k acc acc' → AlikeO k (step k f acc) (step k f acc')
  alike-step k (field n v) h = alike-rule k (rule_of k n) (strict_of k) n v v (λ f _. like-refl k n (decode f v)) h

  -- two values that a form reads alike, under a rule of that form
  alike-form : (k : Kind) (r : Rule) (st : Bool) (n : ℕ) (g : Form) (b b' : List ℕ) → Has g r → LikeO k n (of_bytes g b) (of_bytes g b')
      → (acc acc' : List Item) → Alike k acc acc' → AlikeO k (by_rule r st n (vlen b) acc) (by_rule r st n (vlen b') acc')
  alike-form k Unlisted st n g b b' p l acc acc' a = absurd p
  alike-form k Refused st n g b b' p l acc acc' a = absurd p
  alike-form k (Once f) st n g b b' p l acc acc' a =
      alike-rule k (Once f) st n (vlen b) (vlen b') (λ f' q. subst (λ (f : Form). LikeO k n (of_bytes f b) (of_bytes f b')) (p ∙ sym q) l) a
  alike-form k (Single f) st n g b b' p l acc acc' a =
      alike-rule k (Single f) st n (vlen b) (vlen b') (λ f' q. subst (λ (f : Form). LikeO k n (of_bytes f b) (of_bytes f b')) (p ∙ sym q) l) a
  alike-form k (Repeated f) st n g b b' p l acc acc' a =
      alike-rule k (Repeated f) st n (vlen b) (vlen b') (λ f' q. subst (λ (f : Form). LikeO k n (of_bytes f b) (of_bytes f b')) (p ∙ sym q) l) a

  alike_then : (k : Kind) {o o' : Option (List Item)} (g g' : List Item → Option (List Item)) → AlikeO k o o'
      → ((a a' : List Item) → Alike k a a' → AlikeO k (g a) (g' a')) → AlikeO k (then_o o g) (then_o o' g')
  alike_then k g g' nones f = AlikeO.nones
  alike_then k g g' (somes {is = is} {js = js} h) f = f is js h

  alike-items : (k : Kind) (fs : List Field) {acc acc' : List Item} → Alike k acc acc' → AlikeO k (items k fs acc) (items k fs acc')
  unfolding items
  alike-items k [] h = AlikeO.somes h
  alike-items k (f ∷ fs) h = alike_then k (λ a. items k fs a) (λ a. items k fs a) (alike-step k f h) (λ a a' q. alike-items k fs q)

  alike-items_o : (k : Kind) (o : Option (List Field)) {acc acc' : List Item} → Alike k acc acc' → AlikeO k (items_o k o acc) (items_o k o acc')
  alike-items_o k none h = AlikeO.nones
  alike-items_o k (some fs) h = alike-items k fs h

  -- two messages with alike items ----------------------------------------------------------------------------------

  abbrev Same : Kind → List ℕ → List ℕ → Type 0
  Same k m m' = (acc acc' : List Item) → Alike k acc acc' → AlikeO k (items_o k (fields_of m) acc) (items_o k (fields_of m') acc')

  same-listed : (k : Kind) (m m' : List ℕ) → Same k m m' → (d : ℕ) → EqualButO R k (listed_in d k m) (listed_in d k m')
  unfolding listed_in level
  same-listed k m m' h zero = EqualButO.nones
  same-listed k m m' h (suc d) = alike_o-open d k (h [] [] nil)

  same-front : (k : Kind) {f f' : Field} {x x' : List ℕ} (m m' : List ℕ) → Framed f x → Framed f' x'
      → ((acc acc' : List Item) → Alike k acc acc' → AlikeO k (step k f acc) (step k f' acc')) → Same k m m' → Same k (x ++ m) (x' ++ m')
  same-front k m m' h h' s r acc acc' a =
      subst₂ (AlikeO k) (sym (items-front k m acc h)) (sym (items-front k m' acc' h'))
      (alike_then k (λ a. items_o k (fields_of m) a) (λ a. items_o k (fields_of m') a) (s acc acc' a) r)

  same_bytes : (k : Kind) (n : ℕ) (g : Form) (b b' : List ℕ) {x x' : List ℕ} (m m' : List ℕ) → Framed (field n (vlen b)) x → Framed (field n (vlen b')) x'
      → Has g (rule_of k n) → LikeO k n (of_bytes g b) (of_bytes g b') → Same k m m' → Same k (x ++ m) (x' ++ m')
  same_bytes k n g b b' m m' h h' p l r = same-front k m m' h h' (alike-form k (rule_of k n) (strict_of k) n g b b' p l) r

  put_same : {k : Kind} {c : ℕ} {m m' : List ℕ} → PutIn R k c m m' → c ≡ 0 → Same k m m'
  put_same (PutIn.same k m) z acc acc' a = alike-items_o k (fields_of m) a
  put_same (PutIn.put {k = k} {c = c} {m = m} {m' = m'} n v h u r) z acc acc' a =
      let i = none-strict (strict_of k) c (rw security-strict at z) in
      subst (λ o. AlikeO k (items_o k (fields_of m) acc) o)
      (sym (items-unlisted k n v m' acc' h u ∙ ap (λ t. cond t none (items_o k (fields_of m') acc')) i.0)) (put_same r i.1 acc acc' a)
  put_same (PutIn.keep {k = k} {m = m} {m' = m'} f h h' r) z acc acc' a =
      same-front k m m' h h' (λ acc acc' a. alike-step k f a) (λ p q b. put_same r z p q b) acc acc' a
  put_same (PutIn.inside {k = k} {c = c} {d = d} {m = m} {m' = m'} n k' b b' h h' g i r) z acc acc' a =
      same_bytes k n (Nested k') b b' m m' h h' g
      (LikeO.somes (inner k' b b' g (same-listed k' b b' (λ p q e. put_same i (omega arith) p q e)))) (λ p q e. put_same r (omega arith) p q e) acc acc' a
  put_same (PutIn.hidden {k = k} {m = m} {m' = m'} n b b' h h' g r) z acc acc' a =
      same_bytes k n Opaque b b' m m' h h' g (LikeO.somes (equal (c_raw []))) (λ p q e. put_same r z p q e) acc acc' a
  put_same (PutIn.skipped {k = k} {m = m} {m' = m'} n b b' h h' u r) z acc acc' a =
      same-front k m m' h h'
      (λ p q e. subst₂ (AlikeO k) (sym (step-unlisted k n (vlen b) p u)) (sym (step-unlisted k n (vlen b') q u)) (alike-unless k (strict_of k) (AlikeO.somes e)))
      (λ p q e. put_same r z p q e) acc acc' a
  put_same (PutIn.replaced {k = k} {m = m} {m' = m'} n b b' h h' g w r) z acc acc' a =
      same_bytes k n Bytes b b' m m' h h' g (LikeO.somes (change b b' w)) (λ p q e. put_same r z p q e) acc acc' a

  -- at any depth allowance: the trees are equal but for what R allows, and there is none where there was none
  pub put-in-equal-but : {k : Kind} {m m' : List ℕ} → PutIn R k 0 m m' → (d : ℕ) → EqualButO R k (listed_in d k m) (listed_in d k m')
  put-in-equal-but {k} {m} {m'} r d = same-listed k m m' (put_same r refl) d

equal-but-nothing : {k : Kind} {t t' : Tree} → EqualBut Nothing k t t' → t ≡ t'
equal-but-nothing (EqualBut.dones k) = refl
equal-but-nothing (EqualBut.ints n v r) = ap (int n v) (equal-but-nothing r)
equal-but-nothing (EqualBut.raws n b r) = ap (raw n b) (equal-but-nothing r)
equal-but-nothing (EqualBut.fixs n b r) = ap (fix n b) (equal-but-nothing r)
equal-but-nothing (EqualBut.replaced n b b' w r) = absurd w
equal-but-nothing (EqualBut.equal n u r) = ap (sub n u) (equal-but-nothing r)
equal-but-nothing (EqualBut.subs n k' g q r) = ap₂ (sub n) (equal-but-nothing q) (equal-but-nothing r)

equal_o-but-nothing : {k : Kind} {o p : Option Tree} → EqualButO Nothing k o p → o ≡ p
equal_o-but-nothing EqualButO.nones = refl
equal_o-but-nothing (EqualButO.somes h) = ap some (equal-but-nothing h)

pub put-in-same-in : {k : Kind} {m m' : List ℕ} → PutIn Nothing k 0 m m' → (d : ℕ) → listed_in d k m' ≡ listed_in d k m
put-in-same-in r d = sym (equal_o-but-nothing (put-in-equal-but Nothing r d))

-- PUT IN: unlisted well-framed fields at any boundaries at any depth outside the security part, lengths corrected, contents not looked into changed:
-- what the message says is the same, also where it says nothing
pub put-in-same : {k : Kind} {m m' : List ℕ} → PutIn Nothing k 0 m m' → listed k m' ≡ listed k m
unfolding listed
put-in-same r = put-in-same-in r 5

-- the same with listed bytes replaced as R allows
pub put-in-replaced : (R : Replaces) {k : Kind} {m m' : List ℕ} → PutIn R k 0 m m' → EqualButO R k (listed k m) (listed k m')
unfolding listed
put-in-replaced R r = put-in-equal-but R r 5
