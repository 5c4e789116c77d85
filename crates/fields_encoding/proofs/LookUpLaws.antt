-- What the look-ups find in a tree with optional and repeated fields.
use Prim.Native.Nat.{ℕ, zero, suc}
use Rattle.std.specs.Prelude.{◌≡◌, false, eqb}
use Rattle.std.proofs.Math.Path.{refl, ap}
use Rattle.std.proofs.Common.{◌∙◌, eq-eqb}
use mathlib.Core.List.{List, [], ◌∷◌, ◌++◌}
use Rattle.std.proofs.Math.Option.{Option, none, some}
use Rattle.fields_schema.specs.Tree.{Tree, int, raw, later, int_at, raw_at, fix_at, join_o, sub_at, raws_at, cons_if, subs_at}
use Rattle.fields_encoding.specs.Encode.{int_o, int_if, raw_if, fix_o, each, sub_o, each_sub}
use Rattle.base_definitions.specs.Options.{or_else}

later-none : {A : Type 0} (o : Option A) → later o none ≡ o
later-none none = refl
later-none (some a) = refl

-- a field of the number that is looked for, with none of it behind ------------------------

pub int-here : (n v : ℕ) (t : Tree) → int_at n t ≡ none → int_at n (int n v t) ≡ some v
int-here n v t h = rw (h, eq-eqb n n refl)

pub raw-here : (n : ℕ) (b : List ℕ) (t : Tree) → raw_at n t ≡ none → raw_at n (raw n b t) ≡ some b
raw-here n b t h = rw (h, eq-eqb n n refl)

pub int_o-here : (n : ℕ) (a : Option ℕ) (t : Tree) → int_at n t ≡ none → int_at n (int_o n a t) ≡ a
unfolding int_o
int_o-here n none t h = h
int_o-here n (some v) t h = int-here n v t h

pub int_if-here : (n a : ℕ) (t : Tree) → int_at n t ≡ none → or_else 0 (int_at n (int_if n a t)) ≡ a
unfolding int_if
int_if-here n zero t h = rw h
int_if-here n (suc a) t h = ap (or_else 0) (int-here n (suc a) t h)

pub raw_if-here : (n : ℕ) (b : List ℕ) (t : Tree) → raw_at n t ≡ none → or_else [] (raw_at n (raw_if n b t)) ≡ b
unfolding raw_if
raw_if-here n [] t h = rw h
raw_if-here n (b ∷ bs) t h = ap (or_else []) (raw-here n (b ∷ bs) t h)

pub each-here : (n : ℕ) (bs : List (List ℕ)) (t : Tree) → raws_at n (each n bs t) ≡ bs ++ raws_at n t
unfolding each
each-here n [] t = refl
each-here n (b ∷ bs) t = rw (eq-eqb n n refl) (ap (λ l. b ∷ l) (each-here n bs t))

pub fix_o-here : (n : ℕ) (o : Option (List ℕ)) (t : Tree) → fix_at n t ≡ none → fix_at n (fix_o n o t) ≡ o
unfolding fix_o
fix_o-here n none t h = h
fix_o-here n (some b) t h = rw (h, eq-eqb n n refl)

pub sub_o-here : (n : ℕ) (o : Option Tree) (t : Tree) → sub_at n t ≡ none → sub_at n (sub_o n o t) ≡ o
unfolding sub_o
sub_o-here n none t h = h
sub_o-here n (some s) t h = rw (h, eq-eqb n n refl)

pub each_sub-here : (n : ℕ) (ss : List Tree) (t : Tree) → subs_at n (each_sub n ss t) ≡ ss ++ subs_at n t
unfolding each_sub
each_sub-here n [] t = refl
each_sub-here n (s ∷ ss) t = rw (eq-eqb n n refl) (ap (λ l. s ∷ l) (each_sub-here n ss t))

-- a field of another number, or of another sort, is passed over ---------------------------

module _ (n m : ℕ) where
  pub int-past : (v : ℕ) (t : Tree) → eqb n m ≡ false → int_at n (int m v t) ≡ int_at n t
  int-past v t e = rw e (later-none (int_at n t))

  pub raw-past : (b : List ℕ) (t : Tree) → eqb n m ≡ false → raw_at n (raw m b t) ≡ raw_at n t
  raw-past b t e = rw e (later-none (raw_at n t))

  pub int_o-past : (a : Option ℕ) (t : Tree) → eqb n m ≡ false → int_at n (int_o m a t) ≡ int_at n t
  unfolding int_o
  int_o-past none t e = refl
  int_o-past (some v) t e = int-past v t e

  pub int_if-past : (a : ℕ) (t : Tree) → eqb n m ≡ false → int_at n (int_if m a t) ≡ int_at n t
  unfolding int_if
  int_if-past zero t e = refl
  int_if-past (suc a) t e = int-past (suc a) t e

  pub raw_if-past : (b : List ℕ) (t : Tree) → eqb n m ≡ false → raw_at n (raw_if m b t) ≡ raw_at n t
  unfolding raw_if
  raw_if-past [] t e = refl
  raw_if-past (b ∷ bs) t e = raw-past (b ∷ bs) t e

  pub int-raw_if : (b : List ℕ) (t : Tree) → int_at n (raw_if m b t) ≡ int_at n t
  unfolding raw_if
  int-raw_if [] t = refl
  int-raw_if (b ∷ bs) t = refl

  pub raw-int_o : (a : Option ℕ) (t : Tree) → raw_at n (int_o m a t) ≡ raw_at n t
  unfolding int_o
  raw-int_o none t = refl
  raw-int_o (some v) t = refl

  pub raw-int_if : (a : ℕ) (t : Tree) → raw_at n (int_if m a t) ≡ raw_at n t
  unfolding int_if
  raw-int_if zero t = refl
  raw-int_if (suc a) t = refl

  pub sub-int_o : (a : Option ℕ) (t : Tree) → sub_at n (int_o m a t) ≡ sub_at n t
  unfolding int_o
  sub-int_o none t = refl
  sub-int_o (some v) t = refl

  pub sub-int_if : (a : ℕ) (t : Tree) → sub_at n (int_if m a t) ≡ sub_at n t
  unfolding int_if
  sub-int_if zero t = refl
  sub-int_if (suc a) t = refl

  pub sub-raw_if : (b : List ℕ) (t : Tree) → sub_at n (raw_if m b t) ≡ sub_at n t
  unfolding raw_if
  sub-raw_if [] t = refl
  sub-raw_if (b ∷ bs) t = refl

  pub int-each : (bs : List (List ℕ)) (t : Tree) → int_at n (each m bs t) ≡ int_at n t
  unfolding each
  int-each [] t = refl
  int-each (b ∷ bs) t = int-each bs t

  pub sub_each : (bs : List (List ℕ)) (t : Tree) → sub_at n (each m bs t) ≡ sub_at n t
  unfolding each
  sub_each [] t = refl
  sub_each (b ∷ bs) t = sub_each bs t

  pub raw-fix_o : (o : Option (List ℕ)) (t : Tree) → raw_at n (fix_o m o t) ≡ raw_at n t
  unfolding fix_o
  raw-fix_o none t = refl
  raw-fix_o (some b) t = refl

  pub sub-sub_o : (o : Option Tree) (t : Tree) → eqb n m ≡ false → sub_at n (sub_o m o t) ≡ sub_at n t
  unfolding sub_o
  sub-sub_o none t e = refl
  sub-sub_o (some s) t e = ap (λ b. join_o b s (sub_at n t)) e

  pub subs-sub_o : (o : Option Tree) (t : Tree) → eqb n m ≡ false → subs_at n (sub_o m o t) ≡ subs_at n t
  unfolding sub_o
  subs-sub_o none t e = refl
  subs-sub_o (some s) t e = ap (λ b. cons_if b s (subs_at n t)) e

  pub sub-each_sub : (ss : List Tree) (t : Tree) → eqb n m ≡ false → sub_at n (each_sub m ss t) ≡ sub_at n t
  unfolding each_sub
  sub-each_sub [] t e = refl
  sub-each_sub (s ∷ ss) t e = ap (λ b. join_o b s (sub_at n (each_sub m ss t))) e ∙ sub-each_sub ss t e

  pub subs-each_sub : (ss : List Tree) (t : Tree) → eqb n m ≡ false → subs_at n (each_sub m ss t) ≡ subs_at n t
  unfolding each_sub
  subs-each_sub [] t e = refl
  subs-each_sub (s ∷ ss) t e = ap (λ b. cons_if b s (subs_at n (each_sub m ss t))) e ∙ subs-each_sub ss t e
