-- Whether a key is among some entries, as a search tells.
use Rattle.std.specs.Prelude.{◌≡◌, refl, Bool, true, false, cond, List, [], ◌∷◌, ℕ, ◌+◌, Result, Ok, Err}
use Rattle.std.proofs.Common.{sym, ◌∙◌}
use Rattle.std.proofs.Math.Path.{ap}
use Rattle.std.specs.declared.cmp.Ordering.{Ordering}
use Rattle.std.specs.declared.cmp.Ordering.TheVariants.{Less, Equal, Greater}
use Rattle.store_block.specs.Order.{cmp}
use Rattle.std.specs.Ordering.{is_eq}
use Rattle.store_block.specs.Entry.{Entry}
use Rattle.store_layout.specs.Store.{Above, Sorted}
use Rattle.store_layout.specs.Entries.{by_order, find_from, find_in}
use Rattle.store_layout.proofs.EntriesLaws.{above-next}
use Rattle.store_rescue.specs.Rescue.{has_key}

-- a key below the first is not among them
none_above : (k : List ℕ) (es : List Entry) → Above k es → Sorted es → has_key k es ≡ false
unfolding has_key
none_above k [] a s = refl
none_above k (x ∷ xs) a s = ap (λ (o : Ordering). cond (is_eq o) true (has_key k xs)) a ∙ none_above k xs (above-next k x xs a s.0) s.1

-- what a search found of a key
unfoldable is_at : Result ℕ ℕ → Bool
is_at (Ok i) = true
is_at (Err i) = false

key-found : (j : ℕ) (k : List ℕ) (es : List Entry) → Sorted es → has_key k es ≡ is_at (find_from j k es)
unfolding has_key find_from by_order is_at
key-found j k [] s = refl
key-found j k (x ∷ xs) s = go (cmp k x.key) refl (key-found (j + 1) k xs s.1)
  where
    go : (o : Ordering) → cmp k x.key ≡ o → has_key k xs ≡ is_at (find_from (j + 1) k xs)
        → cond (is_eq (cmp k x.key)) true (has_key k xs) ≡ is_at (by_order (cmp k x.key) (Err j) (Ok j) (find_from (j + 1) k xs))
    go Less q ih =
        ap (λ (o : Ordering). cond (is_eq o) true (has_key k xs)) q ∙ none_above k xs (above-next k x xs q s.0) s.1
        ∙ sym (ap (λ (o : Ordering). is_at (by_order o (Err j) (Ok j) (find_from (j + 1) k xs))) q)
    go Equal q ih =
        ap (λ (o : Ordering). cond (is_eq o) true (has_key k xs)) q
        ∙ sym (ap (λ (o : Ordering). is_at (by_order o (Err j) (Ok j) (find_from (j + 1) k xs))) q)
    go Greater q ih =
        ap (λ (o : Ordering). cond (is_eq o) true (has_key k xs)) q ∙ ih
        ∙ sym (ap (λ (o : Ordering). is_at (by_order o (Err j) (Ok j) (find_from (j + 1) k xs))) q)

module _ (k : List ℕ) (es : List Entry) (s : Sorted es) (i : ℕ) where
  pub has-at : Ok i ≡ find_in k es → has_key k es ≡ true
  unfolding find_in is_at
  has-at q = key-found 0 k es s ∙ ap is_at (sym q)

  pub has-gap : Err i ≡ find_in k es → has_key k es ≡ false
  unfolding find_in is_at
  has-gap q = key-found 0 k es s ∙ ap is_at (sym q)
