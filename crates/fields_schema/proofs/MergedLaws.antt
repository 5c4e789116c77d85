-- Messages that are merged: the later number or bytes count, else the earlier; repeated ones follow each other; messages inside are merged in turn.
use Rattle.std.specs.Prelude.{ℕ, ◌≡◌, refl, Bool, true, false, eqb}
use Rattle.std.proofs.Common.{sym, ◌∙◌}
use Rattle.std.proofs.Math.Path.{ap}
use mathlib.Core.List.{List, [], ◌∷◌, ◌++◌}
use Rattle.std.proofs.Math.Option.{Option, none, some}
use Rattle.fields_schema.specs.Tree.{map_o, then_o, guard, is_some, Content, c_int, c_raw, c_fix, c_msg, Item, item}
use Rattle.fields_schema.specs.Tree.{Tree, done, int, raw, fix, sub, open_one, open_all, later, int_at, raw_at, join, join_o, sub_at, tree_in, cons_if, ints_at, subs_at}
use Rattle.fields_schema.proofs.LevelLaws.{then-none}
use Rattle.fields_schema.specs.declared.Kind.{Kind}
use Rattle.fields_schema.specs.Merged.{joined, join_all, is_cons}

pub later-none : {A : Type 0} (a : Option A) → later a none ≡ a
later-none none = refl
later-none (some a) = refl

later-assoc : {A : Type 0} (a b c : Option A) → later (later a b) c ≡ later a (later b c)
later-assoc none b c = refl
later-assoc (some a) b c = refl

pub int-join : (n : ℕ) (t u : Tree) → int_at n (join t u) ≡ later (int_at n u) (int_at n t)
int-join n done u = sym (later-none (int_at n u))
int-join n (int m v t) u = ap (λ o. later o (guard (eqb n m) v)) (int-join n t u) ∙ later-assoc (int_at n u) (int_at n t) (guard (eqb n m) v)
int-join n (raw m b t) u = int-join n t u
int-join n (fix m b t) u = int-join n t u
int-join n (sub m s t) u = int-join n t u

pub raw-join : (n : ℕ) (t u : Tree) → raw_at n (join t u) ≡ later (raw_at n u) (raw_at n t)
raw-join n done u = sym (later-none (raw_at n u))
raw-join n (int m v t) u = raw-join n t u
raw-join n (raw m b t) u = ap (λ o. later o (guard (eqb n m) b)) (raw-join n t u) ∙ later-assoc (raw_at n u) (raw_at n t) (guard (eqb n m) b)
raw-join n (fix m b t) u = raw-join n t u
raw-join n (sub m s t) u = raw-join n t u

cons-if : {A : Type 0} (b : Bool) (a : A) (x y : List A) → cons_if b a (x ++ y) ≡ cons_if b a x ++ y
cons-if true a x y = refl
cons-if false a x y = refl

pub ints-join : (n : ℕ) (t u : Tree) → ints_at n (join t u) ≡ ints_at n t ++ ints_at n u
ints-join n done u = refl
ints-join n (int m v t) u = ap (cons_if (eqb n m) v) (ints-join n t u) ∙ cons-if (eqb n m) v (ints_at n t) (ints_at n u)
ints-join n (raw m b t) u = ints-join n t u
ints-join n (fix m b t) u = ints-join n t u
ints-join n (sub m s t) u = ints-join n t u

pub join-assoc : (s t u : Tree) → join (join s t) u ≡ join s (join t u)
join-assoc done t u = refl
join-assoc (int n v s) t u = ap (int n v) (join-assoc s t u)
join-assoc (raw n b s) t u = ap (raw n b) (join-assoc s t u)
join-assoc (fix n b s) t u = ap (fix n b) (join-assoc s t u)
join-assoc (sub n r s) t u = ap (sub n r) (join-assoc s t u)

join-if : (b : Bool) (s : Tree) (x y : Option Tree) → join_o b s (joined x y) ≡ joined (join_o b s x) y
join-if false s x y = refl
join-if true s none none = refl
join-if true s none (some u) = refl
join-if true s (some t) none = refl
join-if true s (some t) (some u) = ap some (sym (join-assoc s t u))

pub sub-join : (n : ℕ) (t u : Tree) → sub_at n (join t u) ≡ joined (sub_at n t) (sub_at n u)
sub-join n done u = refl
sub-join n (int m v t) u = sub-join n t u
sub-join n (raw m b t) u = sub-join n t u
sub-join n (fix m b t) u = sub-join n t u
sub-join n (sub m s t) u = ap (join_o (eqb n m) s) (sub-join n t u) ∙ join-if (eqb n m) s (sub_at n t) (sub_at n u)

pub subs-join : (n : ℕ) (t u : Tree) → subs_at n (join t u) ≡ subs_at n t ++ subs_at n u
subs-join n done u = refl
subs-join n (int m v t) u = subs-join n t u
subs-join n (raw m b t) u = subs-join n t u
subs-join n (fix m b t) u = subs-join n t u
subs-join n (sub m s t) u = ap (cons_if (eqb n m) s) (subs-join n t u) ∙ cons-if (eqb n m) s (subs_at n t) (subs_at n u)

pub join-done : (t : Tree) → join t done ≡ t
join-done done = refl
join-done (int n v t) = ap (int n v) (join-done t)
join-done (raw n b t) = ap (raw n b) (join-done t)
join-done (fix n b t) = ap (fix n b) (join-done t)
join-done (sub n s t) = ap (sub n s) (join-done t)

pub join-all : (t : Tree) (us : List Tree) → join_all t us ≡ join t (join_all done us)
join-all t [] = sym (join-done t)
join-all t (u ∷ us) = join-all (join t u) us ∙ join-assoc t u (join_all done us) ∙ ap (join t) (sym (join-all u us))

-- the message of a number is all of that number, joined
pub sub-all : (n : ℕ) (t : Tree) → tree_in (sub_at n t) ≡ join_all done (subs_at n t)
sub-all n done = refl
sub-all n (int m v t) = sub-all n t
sub-all n (raw m b t) = sub-all n t
sub-all n (fix m b t) = sub-all n t
sub-all n (sub m s t) = go (eqb n m) (sub_at n t) (sub-all n t)
  where
    go : (b : Bool) (o : Option Tree) → tree_in o ≡ join_all done (subs_at n t) → tree_in (join_o b s o) ≡ join_all done (cons_if b s (subs_at n t))
    go false o e = e
    go true none e = sym (join-done s) ∙ ap (join s) e ∙ sym (join-all s (subs_at n t))
    go true (some u) e = ap (join s) e ∙ sym (join-all s (subs_at n t))

pub sub-some : (n : ℕ) (t : Tree) → is_some (sub_at n t) ≡ is_cons (subs_at n t)
sub-some n done = refl
sub-some n (int m v t) = sub-some n t
sub-some n (raw m b t) = sub-some n t
sub-some n (fix m b t) = sub-some n t
sub-some n (sub m s t) = go (eqb n m) (sub_at n t) (sub-some n t)
  where
    go : (b : Bool) (o : Option Tree) → is_some o ≡ is_cons (subs_at n t) → is_some (join_o b s o) ≡ is_cons (cons_if b s (subs_at n t))
    go false o e = e
    go true none e = refl
    go true (some u) e = refl

pub sub_in : (n : ℕ) (t u : Tree) → tree_in (sub_at n (join t u)) ≡ join (tree_in (sub_at n t)) (tree_in (sub_at n u))
sub_in n t u = ap tree_in (sub-join n t u) ∙ go (sub_at n t) (sub_at n u)
  where
    go : (x y : Option Tree) → tree_in (joined x y) ≡ join (tree_in x) (tree_in y)
    go none y = refl
    go (some s) none = sym (join-done s)
    go (some s) (some u) = refl

-- the later one counts: what is made of it follows
pub later-as : {A B : Type 0} (f : Option A → B) (x : Option A) {y z : Option A} → f y ≡ f z → f (later x y) ≡ f (later x z)
later-as f none e = e
later-as f (some a) e = refl

-- the items of two messages, one after the other, open to the merged tree
module _ (below : Kind → List ℕ → Option Tree) where
  open-join : (n : ℕ) (c : Content) (t u : Tree) → open_one below n c (join t u) ≡ map_o (λ t. join t u) (open_one below n c t)
  open-join n (c_int v) t u = refl
  open-join n (c_raw b) t u = refl
  open-join n (c_fix b) t u = refl
  open-join n (c_msg k b) t u = go (below k b)
    where
      go : (o : Option Tree) → map_o (λ s. sub n s (join t u)) o ≡ map_o (λ t. join t u) (map_o (λ s. sub n s t) o)
      go none = refl
      go (some s) = refl

  abbrev merge : Option Tree → Option Tree → Option Tree
  merge a b = then_o a (λ t. map_o (λ u. join t u) b)

  map-merge : (a : Option Tree) (u : Tree) → map_o (λ t. join t u) a ≡ merge a (some u)
  map-merge none u = refl
  map-merge (some t) u = refl

  one_merge : (n : ℕ) (c : Content) (a b : Option Tree) → then_o (merge a b) (λ t. open_one below n c t) ≡ merge (then_o a (λ t. open_one below n c t)) b
  one_merge n c none b = refl
  one_merge n c (some t) none = sym (then-none (open_one below n c t))
  one_merge n c (some t) (some u) = open-join n c t u ∙ map-merge (open_one below n c t) u

  nil-merge : (b : Option Tree) → b ≡ merge (some done) b
  nil-merge none = refl
  nil-merge (some u) = refl

  pub open-append : (is js : List Item) → open_all below (is ++ js) ≡ merge (open_all below is) (open_all below js)
  unfolding open_all
  open-append [] js = nil-merge (open_all below js)
  open-append (item n c ∷ is) js =
      ap (λ o. then_o o (λ t. open_one below n c t)) (open-append is js) ∙ one_merge n c (open_all below is) (open_all below js)
