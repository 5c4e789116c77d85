-- `next_of` and `previous_of` of the entries that pass a test are the neighbours that pass it, and there is none just where none passes.
use Rattle.std.specs.Prelude.{◌≡◌, refl, Bool, true, false, ℕ}
use Rattle.std.proofs.Common.{sym, ap, ◌∙◌, arith}
use mathlib.Core.List.{List, [], ◌∷◌, reverse_aux}
use Rattle.std.proofs.Math.Option.{Option, none, some}
use Rattle.base_definitions.specs.Lists.{only, first, last}
use Rattle.std.specs.declared.cmp.Ordering.{Ordering}
use Rattle.std.specs.declared.cmp.Ordering.TheVariants.{Less, Equal, Greater}
use Rattle.store_block.specs.Order.{cmp, Below}
use Rattle.store_block.specs.OrderLaws.{cmp-refl, cmp-equal, cmp-flip}
use Rattle.std.specs.Ordering.{ordering_reverse}
use Rattle.store_block.specs.Entry.{Entry}
use Rattle.std.specs.Ordering.{is_lt}
use Rattle.store_layout.specs.Store.{Above, Sorted}
use Rattle.store_layout.specs.Entries.{next_of, previous_of}
use Rattle.store_layout.proofs.EntriesLaws.{is-less, is-equal, is_greater, by-order, above-next, after}
use Rattle.store_layout.specs.Lookup.{under}
use Rattle.store_layout.proofs.LookupLaws.{above-none}
use Rattle.store_layout.proofs.FilteredLaws.{only-sorted, only_under, under-only}
use Rattle.store_layout.specs.Neighbours.{Nearest, NoneFits, Upwards, Downwards, Next, Previous}

never : {X : Type 0} → ◌≡◌ {A = ℕ} 0 1 → X
never z = absurd (omega arith)

-- e is one of the entries, and none of them lies before it
record Foremost (Before : List ℕ → List ℕ → Type 0) (es : List Entry) (e : Entry) : Type 0 where
  there : under e.key es ≡ some e
  before : (x : Entry) → under x.key es ≡ some x → Before x.key e.key → ⊥

-- a way to choose the foremost entry
record Chooses (Before : List ℕ → List ℕ → Type 0) (choose : List Entry → Option Entry) : Type 0 where
  foremost : (es : List Entry) (e : Entry) → Sorted es → choose es ≡ some e → Foremost Before es e
  exactly : (es : List Entry) (e : Entry) → Sorted es → Foremost Before es e → choose es ≡ some e
  nothing : (es : List Entry) → choose es ≡ none → es ≡ []
  empty : choose [] ≡ none

-- ---- the first

own : (x : Entry) (xs : List Entry) → under x.key (x ∷ xs) ≡ some x
unfolding under
own x xs = is-equal _ _ _ _ (cmp-refl x.key)

under-less : (k : List ℕ) (x : Entry) (xs : List Entry) → Below k x.key → under k (x ∷ xs) ≡ none
unfolding under
under-less k x xs q = is-less _ _ _ _ q

under-equal : (k : List ℕ) (x : Entry) (xs : List Entry) → cmp k x.key ≡ Equal → under k (x ∷ xs) ≡ some x
unfolding under
under-equal k x xs q = is-equal _ _ _ _ q

under-greater : (k : List ℕ) (x : Entry) (xs : List Entry) → cmp k x.key ≡ Greater → under k (x ∷ xs) ≡ under k xs
unfolding under
under-greater k x xs q = is_greater _ _ _ _ q

empty-under : (k : List ℕ) (x : Entry) → under k [] ≡ some x → ⊥
unfolding under
empty-under k x e = never (cc)

first-chooses : Chooses Upwards first
unfolding under
first-chooses = record { foremost = foremost; exactly = exactly; nothing = nothing; empty = refl }
  where
    foremost : (es : List Entry) (e : Entry) → Sorted es → first es ≡ some e → Foremost Upwards es e
    foremost [] e s h = never (cc)
    foremost (x ∷ xs) e s h =
        let z : x ≡ e = cc in
        record {
          there = ap (λ (y : Entry). under y.key (x ∷ xs)) (sym z) ∙ own x xs ∙ ap some z;
          before = λ y u b. let n = under-less y.key x xs (ap (λ (e : Entry). cmp y.key e.key) z ∙ b) in never (cc);
        }

    exactly : (es : List Entry) (e : Entry) → Sorted es → Foremost Upwards es e → first es ≡ some e
    exactly [] e s h = let u = h.there in never (cc)
    exactly (x ∷ xs) e s h =
        let u = h.there in
        by-order e.key x.key
        (λ q. let n = under-less e.key x xs q in never (cc))
        (λ q. let n = under-equal e.key x xs q in cc)
        (λ q. absurd (h.before x (own x xs) (cmp-flip e.key x.key ∙ ap ordering_reverse q)))

    nothing : (es : List Entry) → first es ≡ none → es ≡ []
    nothing [] h = refl
    nothing (x ∷ xs) h = never (cc)

-- ---- the last

ahead : (ys : List Entry) (y : Entry) (p q : List Entry) → first (reverse_aux ys (y ∷ p)) ≡ first (reverse_aux ys (y ∷ q))
ahead [] y p q = refl
ahead (z ∷ zs) y p q = ahead zs z (y ∷ p) (y ∷ q)

last_more : (x y : Entry) (ys : List Entry) → last (x ∷ y ∷ ys) ≡ last (y ∷ ys)
last_more x y ys = ahead ys y (x ∷ []) []

-- an entry of those that follow x has a key above its
following : (x e : Entry) (xs : List Entry) → Above x.key xs → under e.key xs ≡ some e → cmp e.key x.key ≡ Greater
following x e xs a u =
    by-order e.key x.key
    (λ q. let n = above-none e.key xs (above-next e.key x xs q a) in never (cc))
    (λ q. let n = above-none e.key xs (after e.key x xs q a) in never (cc))
    (λ q. q)

last-foremost : (es : List Entry) (e : Entry) → Sorted es → last es ≡ some e → Foremost Downwards es e
unfolding under
last-foremost [] e s h = never (cc)
last-foremost (x ∷ []) e s h =
    let z : x ≡ e = cc in
    record {
      there = ap (λ (y : Entry). under y.key (x ∷ [])) (sym z) ∙ own x [] ∙ ap some z;
      before = λ y u b.
          let n = under-greater y.key x [] (ap (λ (e : Entry). cmp y.key e.key) z ∙ cmp-flip e.key y.key ∙ ap ordering_reverse b) in
          never (cc);
    }
last-foremost (x ∷ y ∷ ys) e s h =
    let r = last-foremost (y ∷ ys) e s.1 (sym (last_more x y ys) ∙ h) in
    let g = following x e (y ∷ ys) s.0 r.there in
    record {
      there = under-greater e.key x (y ∷ ys) g ∙ r.there;
      before = λ z u b.
          by-order z.key x.key
          (λ q. let n = under-less z.key x (y ∷ ys) q in never (cc))
          (λ q. let n : cmp e.key x.key ≡ Less = ap (cmp e.key) (sym (cmp-equal z.key x.key q)) ∙ b in never (cc))
          (λ q. r.before z (sym (under-greater z.key x (y ∷ ys) q) ∙ u) b);
    }

last-exactly : (es : List Entry) (e : Entry) → Sorted es → Foremost Downwards es e → last es ≡ some e
unfolding under
last-exactly [] e s h = let u = h.there in never (cc)
last-exactly (x ∷ []) e s h =
    let u = h.there in
    by-order e.key x.key
    (λ q. let n = under-less e.key x [] q in never (cc))
    (λ q. let n = under-equal e.key x [] q in cc)
    (λ q. let n = under-greater e.key x [] q in never (cc))
last-exactly (x ∷ y ∷ ys) e s h =
    let u = h.there in
    last_more x y ys
    ∙ by-order e.key x.key
    (λ q. let n = under-less e.key x (y ∷ ys) q in never (cc))
    (λ q.
    let b : Below e.key y.key = ap (λ (k : List ℕ). cmp k y.key) (cmp-equal e.key x.key q) ∙ s.0 in
    absurd (h.before y (under-greater y.key x (y ∷ ys) (cmp-flip x.key y.key ∙ ap ordering_reverse s.0) ∙ own y ys) b))
    (λ q.
    last-exactly (y ∷ ys) e s.1
    (record {
      there = sym (under-greater e.key x (y ∷ ys) q) ∙ u;
      before = λ z v b. h.before z (under-greater z.key x (y ∷ ys) (following x z (y ∷ ys) s.0 v) ∙ v) b;
    }))

last-nothing : (es : List Entry) → last es ≡ none → es ≡ []
last-nothing [] h = refl
last-nothing (x ∷ []) h = never (cc)
last-nothing (x ∷ y ∷ ys) h = let e = last-nothing (y ∷ ys) (sym (last_more x y ys) ∙ h) in never (cc)

last-chooses : Chooses Downwards last
last-chooses = record { foremost = last-foremost; exactly = last-exactly; nothing = last-nothing; empty = refl }

-- ---- either side: a choice among the entries beyond k that pass

less-true : (o : Ordering) → is_lt o ≡ true → o ≡ Less
less-true Less e = refl
less-true Equal e = never (cc)
less-true Greater e = never (cc)

true-less : (o : Ordering) → o ≡ Less → is_lt o ≡ true
true-less o e = ap is_lt e

-- the test of a side
record Tests (Beyond : List ℕ → List ℕ → Type 0) (test : List ℕ → Entry → Bool) : Type 0 where
  yes : (k : List ℕ) (e : Entry) → test k e ≡ true → Beyond k e.key
  no : (k : List ℕ) (e : Entry) → Beyond k e.key → test k e ≡ true

module _ {Beyond : List ℕ → List ℕ → Type 0} {choose : List Entry → Option Entry} {test : List ℕ → Entry → Bool} (c : Chooses Beyond choose) (t : Tests Beyond test)
    (ok : Entry → Bool) (k : List ℕ) (es : List Entry) (s : Sorted es) where
  abbrev those : List Entry
  those = only (test k) (only ok es)

  sorted : Sorted those
  sorted = only-sorted (test k) (only ok es) (only-sorted ok es s)

  into : (x : Entry) → under x.key es ≡ some x → Beyond k x.key → ok x ≡ true → under x.key those ≡ some x
  into x u b p = under-only (test k) x.key (only ok es) x (only-sorted ok es s) (under-only ok x.key es x s u p) (t.no k x b)

  out : (x : Entry) → under x.key those ≡ some x → (under x.key es ≡ some x) × (ok x ≡ true) × Beyond k x.key
  out x u =
      let a = only_under (test k) x.key (only ok es) x (only-sorted ok es s) u in
      let b = only_under ok x.key es x s a.0 in
      (b.0, b.1, t.yes k x a.1)

  refuted : (x : Entry) → (ok x ≡ true → ⊥) → ok x ≡ false
  refuted x n = go (ok x) refl
    where
      go : (b : Bool) → ok x ≡ b → ok x ≡ false
      go true p = absurd (n p)
      go false p = p

  chosen-nearest : (e : Entry) → choose those ≡ some e → Nearest Beyond ok k es e
  chosen-nearest e h =
      let f = c.foremost those e sorted h in
      let o = out e f.there in
      record {
        there = o.0;
        beyond = o.2;
        fits = o.1;
        nearest = λ x u b d. refuted x (λ p. f.before x (into x u b p) d);
      }

  nearest-chosen : (e : Entry) → Nearest Beyond ok k es e → choose those ≡ some e
  nearest-chosen e n =
      c.exactly those e sorted
      (record {
        there = into e n.there n.beyond n.fits;
        before = λ x u d. let o = out x u in let m = n.nearest x o.0 o.2 d in let p = o.1 in never (cc);
      })

  none-fits : choose those ≡ none → NoneFits Beyond ok k es
  none-fits h x u b = refuted x (λ p. empty-under x.key x (sym (ap (under x.key) (c.nothing those h)) ∙ into x u b p))

  fits-none : NoneFits Beyond ok k es → choose those ≡ none
  fits-none n = go (choose those) refl
    where
      go : (o : Option Entry) → choose those ≡ o → choose those ≡ none
      go none e = e
      go (some x) e = let m = chosen-nearest x e in let f = n x m.there m.beyond in let p = m.fits in never (cc)

upwards : Tests Upwards (λ k e. is_lt (cmp k e.key))
upwards = record { yes = λ k e h. less-true (cmp k e.key) h; no = λ k e h. true-less (cmp k e.key) h }

downwards : Tests Downwards (λ k e. is_lt (cmp e.key k))
downwards = record { yes = λ k e h. less-true (cmp e.key k) h; no = λ k e h. true-less (cmp e.key k) h }

-- ---- the theorems

module _ (ok : Entry → Bool) (k : List ℕ) (es : List Entry) (s : Sorted es) where
  -- what is shown is the nearest that passes
  pub next-nearest : (e : Entry) → next_of k (only ok es) ≡ some e → Next ok k es e
  unfolding next_of
  next-nearest = chosen-nearest first-chooses upwards ok k es s

  pub previous-nearest : (e : Entry) → previous_of k (only ok es) ≡ some e → Previous ok k es e
  unfolding previous_of
  previous-nearest = chosen-nearest last-chooses downwards ok k es s

  -- and the nearest that passes is shown
  pub next-exactly : (e : Entry) → Next ok k es e → next_of k (only ok es) ≡ some e
  unfolding next_of
  next-exactly = nearest-chosen first-chooses upwards ok k es s

  pub previous-exactly : (e : Entry) → Previous ok k es e → previous_of k (only ok es) ≡ some e
  unfolding previous_of
  previous-exactly = nearest-chosen last-chooses downwards ok k es s

  -- there is none exactly where no entry on that side passes
  pub next-none : next_of k (only ok es) ≡ none → NoneFits Upwards ok k es
  unfolding next_of
  next-none = none-fits first-chooses upwards ok k es s

  pub none-next : NoneFits Upwards ok k es → next_of k (only ok es) ≡ none
  unfolding next_of
  none-next = fits-none first-chooses upwards ok k es s

  pub previous-none : previous_of k (only ok es) ≡ none → NoneFits Downwards ok k es
  unfolding previous_of
  previous-none = none-fits last-chooses downwards ok k es s

  pub none-previous : NoneFits Downwards ok k es → previous_of k (only ok es) ≡ none
  unfolding previous_of
  none-previous = fits-none last-chooses downwards ok k es s
