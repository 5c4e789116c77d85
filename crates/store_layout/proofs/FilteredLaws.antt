-- Entries that pass a test: they ascend, under a key stands what stood there and passes, and they do not depend on the others.
use Rattle.std.specs.Prelude.{◌≡◌, Bool, ℕ}
use Rattle.std.proofs.Math.Path.{refl, sym, ap}
use Rattle.std.proofs.Common.{◌∙◌, arith}
use Rattle.std.proofs.Math.Bool.{true, false, cond}
use mathlib.Core.List.{List, [], ◌∷◌}
use Rattle.std.proofs.Math.Option.{Option, none, some}
use Rattle.base_definitions.specs.Lists.{only}
use Rattle.store_block.specs.Order.{cmp}
use Rattle.store_block.specs.Entry.{Entry}
use Rattle.store_layout.specs.Store.{Above, Sorted}
use Rattle.store_layout.specs.Entries.{by_order, next_of, previous_of}
use Rattle.store_layout.proofs.EntriesLaws.{is-less, is-equal, is_greater, by-order, above-next, after}
use Rattle.store_layout.specs.Lookup.{under}
use Rattle.store_layout.proofs.LookupLaws.{above-none, under_at, ext}

module _ (f : Entry → Bool) where
  only_above : (k : List ℕ) (es : List Entry) → Above k es → Sorted es → Above k (only f es)
  unfolding only
  only_above k [] a s = tt
  only_above k (x ∷ xs) a s = go (f x) (only_above k xs (above-next k x xs a s.0) s.1)
    where
      go : (b : Bool) → Above k (only f xs) → Above k (cond b (x ∷ only f xs) (only f xs))
      go true h = a
      go false h = h

  pub only-sorted : (es : List Entry) → Sorted es → Sorted (only f es)
  unfolding only
  only-sorted [] s = tt
  only-sorted (x ∷ xs) s = go (f x) (only-sorted xs s.1) (only_above x.key xs s.0 s.1)
    where
      go : (b : Bool) → Sorted (only f xs) → Above x.key (only f xs) → Sorted (cond b (x ∷ only f xs) (only f xs))
      go true h a = (a, h)
      go false h a = h

  -- an entry, if it passes
  abbrev passed : Option Entry → Option Entry
  passed none = none
  passed (some x) = cond (f x) (some x) none

  only-passed : (k : List ℕ) (es : List Entry) → Sorted es → under k (only f es) ≡ passed (under k es)
  unfolding only under
  only-passed k [] s = refl
  only-passed k (x ∷ xs) s = go (f x) refl (only-passed k xs s.1)
    where
      go : (b : Bool) → f x ≡ b → under k (only f xs) ≡ passed (under k xs) → under k (cond b (x ∷ only f xs) (only f xs)) ≡ passed (by_order (cmp k x.key) none (some x) (under k xs))
      go true p ih =
          by-order k x.key
          (λ q. is-less _ none (some x) (under k (only f xs)) q ∙ ap passed (sym (is-less _ none (some x) (under k xs) q)))
          (λ q. is-equal _ none (some x) (under k (only f xs)) q ∙ sym (ap passed (is-equal _ none (some x) (under k xs) q) ∙ ap (λ (b : Bool). cond b (some x) none) p))
          (λ q. is_greater _ none (some x) (under k (only f xs)) q ∙ ih ∙ ap passed (sym (is_greater _ none (some x) (under k xs) q)))
      go false p ih =
          ih
          ∙ by-order k x.key
          (λ q. ap passed (above-none k xs (above-next k x xs q s.0) ∙ sym (is-less _ none (some x) (under k xs) q)))
          (λ q.
          ap passed (above-none k xs (after k x xs q s.0))
          ∙ sym (ap passed (is-equal _ none (some x) (under k xs) q) ∙ ap (λ (b : Bool). cond b (some x) none) p))
          (λ q. ap passed (sym (is_greater _ none (some x) (under k xs) q)))

  -- what stands under a key after the test is what stood there and passes
  pub only_under : (k : List ℕ) (es : List Entry) (e : Entry) → Sorted es → under k (only f es) ≡ some e → (under k es ≡ some e) × (f e ≡ true)
  only_under k es e s h = go (under k es) refl (sym (only-passed k es s) ∙ h)
    where
      go : (o : Option Entry) → under k es ≡ o → passed o ≡ some e → (under k es ≡ some e) × (f e ≡ true)
      go none p h = absurd (let z : ◌≡◌ {A = ℕ} 0 1 = cc in omega arith)
      go (some x) p h = by-test (f x) refl h
        where
          by-test : (b : Bool) → f x ≡ b → cond b (some x) none ≡ some e → (under k es ≡ some e) × (f e ≡ true)
          by-test true q h = (p ∙ h, (let z : e ≡ x = cc in ap f z ∙ q))
          by-test false q h = absurd (let z : ◌≡◌ {A = ℕ} 0 1 = cc in omega arith)

  pub under-only : (k : List ℕ) (es : List Entry) (e : Entry) → Sorted es → under k es ≡ some e → f e ≡ true → under k (only f es) ≡ some e
  under-only k es e s h p = only-passed k es s ∙ ap passed h ∙ ap (λ (b : Bool). cond b (some e) none) p

-- ---- a test on keys

module _ (P : List ℕ → Bool) where
  abbrev passing : List Entry → List Entry
  passing es = only (λ e. P e.key) es

  passing-under : (k : List ℕ) (es : List Entry) → Sorted es → under k (passing es) ≡ cond (P k) (under k es) none
  passing-under k es s = only-passed (λ e. P e.key) k es s ∙ go (under k es) refl
    where
      either : (b : Bool) → ◌≡◌ {A = Option Entry} none (cond b none none)
      either true = refl
      either false = refl

      go : (o : Option Entry) → under k es ≡ o → passed (λ e. P e.key) o ≡ cond (P k) o none
      go none p = either (P k)
      go (some x) p = ap (λ l. cond (P l) (some x) none) (under_at k es x p).3

  module _ (es fs : List Entry) (s : Sorted es) (t : Sorted fs) (agree : (k : List ℕ) → P k ≡ true → under k es ≡ under k fs) where
    -- THE OTHERS DO NOT COUNT: entries that agree under every key that passes have the same that pass
    pub only_same : passing es ≡ passing fs
    only_same =
        ext (passing es) (passing fs) (only-sorted (λ e. P e.key) es s) (only-sorted (λ e. P e.key) fs t)
        (λ k. passing-under k es s ∙ at k (P k) refl ∙ sym (passing-under k fs t))
      where
        at : (k : List ℕ) (b : Bool) → P k ≡ b → cond (P k) (under k es) none ≡ cond (P k) (under k fs) none
        at k true p = ap (λ (u : Option Entry). cond (P k) u none) (agree k p)
        at k false p = ap (λ (b : Bool). cond b (under k es) none) p ∙ sym (ap (λ (b : Bool). cond b (under k fs) none) p)

    pub next-blind : (k : List ℕ) → next_of k (passing es) ≡ next_of k (passing fs)
    next-blind k = ap (next_of k) only_same

    pub previous-blind : (k : List ℕ) → previous_of k (passing es) ≡ previous_of k (passing fs)
    previous-blind k = ap (previous_of k) only_same
