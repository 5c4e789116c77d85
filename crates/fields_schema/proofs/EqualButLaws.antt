-- Look-ups in trees that are equal but for replaced bytes: equal numbers; bytes in both or in none; messages that are again equal but for them.
use Rattle.std.specs.Prelude.{ℕ, ◌≡◌, refl, List, Bool, true, false, eqb}
use Rattle.std.proofs.Common.{sym, ap, subst, eqb-true}
use Rattle.std.proofs.Math.Option.{Option, none, some}
use Rattle.fields_schema.specs.Rules.{rule_of}
use Rattle.fields_schema.specs.Tree.{guard, Tree, done, int, raw, fix, sub, later, int_at, raw_at, join, join_o, sub_at}
use Rattle.fields_schema.specs.PutIn.{Has, Replaces, EqualBut}
use Rattle.fields_schema.specs.declared.Kind.{Kind}
use Rattle.fields_schema.specs.declared.Form.TheVariants.{Nested}
use Rattle.fields_schema.specs.declared.Rule.{Rule}
use Rattle.fields_schema.proofs.LevelLaws.{one_form}
use Rattle.fields_schema.specs.EqualBut.{RawsBut, SubsBut}

one-kind : (r : Rule) {j k : Kind} → Has (Nested j) r → Has (Nested k) r → j ≡ k
one-kind r {j} {k} h g = let e : Nested j ≡ Nested k = one_form r h g in cc

module _ (R : Replaces) where
  pub equal-but-refl : (k : Kind) (t : Tree) → EqualBut R k t t
  equal-but-refl k done = EqualBut.dones k
  equal-but-refl k (int n v t) = EqualBut.ints n v (equal-but-refl k t)
  equal-but-refl k (raw n b t) = EqualBut.raws n b (equal-but-refl k t)
  equal-but-refl k (fix n b t) = EqualBut.fixs n b (equal-but-refl k t)
  equal-but-refl k (sub n u t) = EqualBut.equal n u (equal-but-refl k t)

  equal-but-join : {k : Kind} {t t' u u' : Tree} → EqualBut R k t t' → EqualBut R k u u' → EqualBut R k (join t u) (join t' u')
  equal-but-join (EqualBut.dones k) h = h
  equal-but-join (EqualBut.ints n v r) h = EqualBut.ints n v (equal-but-join r h)
  equal-but-join (EqualBut.raws n b r) h = EqualBut.raws n b (equal-but-join r h)
  equal-but-join (EqualBut.fixs n b r) h = EqualBut.fixs n b (equal-but-join r h)
  equal-but-join (EqualBut.replaced n b b' w r) h = EqualBut.replaced n b b' w (equal-but-join r h)
  equal-but-join (EqualBut.equal n u r) h = EqualBut.equal n u (equal-but-join r h)
  equal-but-join (EqualBut.subs n k' g q r) h = EqualBut.subs n k' g q (equal-but-join r h)

  pub int-equal : (n : ℕ) {k : Kind} {t t' : Tree} → EqualBut R k t t' → int_at n t ≡ int_at n t'
  int-equal n (EqualBut.dones k) = refl
  int-equal n (EqualBut.ints m v r) = ap (λ o. later o (guard (eqb n m) v)) (int-equal n r)
  int-equal n (EqualBut.raws m b r) = int-equal n r
  int-equal n (EqualBut.fixs m b r) = int-equal n r
  int-equal n (EqualBut.replaced m b b' w r) = int-equal n r
  int-equal n (EqualBut.equal m u r) = int-equal n r
  int-equal n (EqualBut.subs m k' g q r) = int-equal n r

  raws-later : (k : Kind) (n : ℕ) {o o' p p' : Option (List ℕ)} → RawsBut R k n o o' → RawsBut R k n p p' → RawsBut R k n (later o p) (later o' p')
  raws-later k n (RawsBut.equal none) h = h
  raws-later k n (RawsBut.equal (some b)) h = RawsBut.equal (some b)
  raws-later k n (RawsBut.replaced b b' w) h = RawsBut.replaced b b' w

  raws-guard : (k : Kind) (n m : ℕ) (b b' : List ℕ) → R k m b b' → (t : Bool) → eqb n m ≡ t → RawsBut R k n (guard t b) (guard t b')
  raws-guard k n m b b' w true e = RawsBut.replaced b b' (subst (λ i. R k i b b') (sym (eqb-true n m e)) w)
  raws-guard k n m b b' w false e = RawsBut.equal none

  pub raw-equal : (n : ℕ) {k : Kind} {t t' : Tree} → EqualBut R k t t' → RawsBut R k n (raw_at n t) (raw_at n t')
  raw-equal n (EqualBut.dones k) = RawsBut.equal none
  raw-equal n (EqualBut.ints m v r) = raw-equal n r
  raw-equal n {k} (EqualBut.raws m b r) = raws-later k n (raw-equal n r) (RawsBut.equal (guard (eqb n m) b))
  raw-equal n (EqualBut.fixs m b r) = raw-equal n r
  raw-equal n {k} (EqualBut.replaced m b b' w r) = raws-later k n (raw-equal n r) (raws-guard k n m b b' w (eqb n m) refl)
  raw-equal n (EqualBut.equal m u r) = raw-equal n r
  raw-equal n (EqualBut.subs m k' g q r) = raw-equal n r

  -- of a field that is equal, or equal but for replaced bytes, and of the further ones
  subs-equal : (k : Kind) (n : ℕ) (t : Bool) (u : Tree) {o o' : Option Tree} → SubsBut R k n o o' → SubsBut R k n (join_o t u o) (join_o t u o')
  subs-equal k n false u h = h
  subs-equal k n true u (SubsBut.equal o) = SubsBut.equal (join_o true u o)
  subs-equal k n true u (SubsBut.subs k' g q) = SubsBut.subs k' g (equal-but-join (equal-but-refl k' u) q)

  subs-join : (k : Kind) (n : ℕ) (k' : Kind) → Has (Nested k') (rule_of k n) → {u u' : Tree} → EqualBut R k' u u' → {o o' : Option Tree} → SubsBut R k n o o'
      → SubsBut R k n (join_o true u o) (join_o true u' o')
  subs-join k n k' g q (SubsBut.equal none) = SubsBut.subs k' g q
  subs-join k n k' g q (SubsBut.equal (some t)) = SubsBut.subs k' g (equal-but-join q (equal-but-refl k' t))
  subs-join k n k' g q (SubsBut.subs {t = t} {t' = t'} j l r) =
      SubsBut.subs k' g (equal-but-join q (subst (λ (i : Kind). EqualBut R i t t') (one-kind (rule_of k n) l g) r))

  subs-pick : (k : Kind) (n m : ℕ) (k' : Kind) → Has (Nested k') (rule_of k m) → {u u' : Tree} → EqualBut R k' u u' → (t : Bool) → eqb n m ≡ t
      → {o o' : Option Tree} → SubsBut R k n o o' → SubsBut R k n (join_o t u o) (join_o t u' o')
  subs-pick k n m k' g q false e h = h
  subs-pick k n m k' g q true e h = subs-join k n k' (subst (λ i. Has (Nested k') (rule_of k i)) (sym (eqb-true n m e)) g) q h

  pub sub-equal : (n : ℕ) {k : Kind} {t t' : Tree} → EqualBut R k t t' → SubsBut R k n (sub_at n t) (sub_at n t')
  sub-equal n (EqualBut.dones k) = SubsBut.equal none
  sub-equal n (EqualBut.ints m v r) = sub-equal n r
  sub-equal n (EqualBut.raws m b r) = sub-equal n r
  sub-equal n (EqualBut.fixs m b r) = sub-equal n r
  sub-equal n (EqualBut.replaced m b b' w r) = sub-equal n r
  sub-equal n {k} (EqualBut.equal m u r) = subs-equal k n (eqb n m) u (sub-equal n r)
  sub-equal n {k} (EqualBut.subs m k' g q r) = subs-pick k n m k' g q (eqb n m) refl (sub-equal n r)
