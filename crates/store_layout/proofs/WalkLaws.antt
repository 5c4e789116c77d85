-- A turn of a walk over the blocks, for the calls that count and search.
use Rattle.std.specs.Prelude.{◌≡◌, ℕ, suc, ◌+◌, ◌-◌, ◌≤◌, ◌<◌, length, drop, get_or, Ok, Err}
use Rattle.std.proofs.Common.{sym, ap₂, ◌∙◌, get_or-drop, drop-drop}
use Rattle.std.proofs.Math.Path.{ap}
use mathlib.Core.List.{List, [], ◌∷◌}
use native.Mathlib.Omega.{arith}
use Rattle.std.proofs.Math.ListN.{take}
use Rattle.store_block.specs.Order.{cmp}
use Rattle.store_block.specs.Block.{decode}
use Rattle.store_layout.specs.Store.{entries_from}
use Rattle.store_layout.specs.Entries.{by_order, find_from}
use Rattle.store_layout.proofs.StoreLaws.{from-blank, from-used}

pub first-at : (l : List ℕ) (a : ℕ) → get_or (drop a l) 0 0 ≡ get_or l a 0
first-at l a = let z : a + 0 ≡ a = omega arith in get_or-drop a l 0 0 ∙ ap (λ (n : ℕ). get_or l n 0) z

module _ (l : List ℕ) (n i a : ℕ) where
  pub rest-blank : get_or l a 0 ≡ 0 → entries_from (n - i) (drop a l) ≡ []
  rest-blank h = from-blank (n - i) (drop a l) (first-at l a ∙ h)

  pub rest-used : i < n → (get_or l a 0 ≡ 0 → ⊥) → entries_from (n - i) (drop a l) ≡ decode (drop a l) ∷ entries_from (n - (i + 1)) (drop (a + 512) l)
  rest-used h k =
      let m : n - i ≡ suc (n - (i + 1)) = omega arith in
      ap (λ (j : ℕ). entries_from j (drop a l)) m
      ∙ from-used (n - (i + 1)) (drop a l) (λ e. k (sym (first-at l a) ∙ e))
      ∙ ap (λ (r : List ℕ). decode (drop a l) ∷ entries_from (n - (i + 1)) r) (drop-drop 512 a l)

  pub rest_end : n ≤ i → entries_from (n - i) (drop a l) ≡ []
  unfolding entries_from
  rest_end h = let z : n - i ≡ 0 = omega arith in ap (λ (m : ℕ). entries_from m (drop a l)) z

  pub count-blank : get_or l a 0 ≡ 0 → i + length (entries_from (n - i) (drop a l)) ≡ i
  count-blank h = let e = ap length (rest-blank h) in omega arith

  pub count-used : i < n → (get_or l a 0 ≡ 0 → ⊥) → i + 1 + length (entries_from (n - (i + 1)) (drop (a + 512) l)) ≡ i + length (entries_from (n - i) (drop a l))
  count-used h k = let e = ap length (rest-used h k) in omega arith

  pub count-end : n ≤ i → i + length (entries_from (n - i) (drop a l)) ≡ i
  count-end h = let e = ap length (rest_end h) in omega arith

  module _ (key : List ℕ) where
    pub find-blank : get_or l a 0 ≡ 0 → find_from i key (entries_from (n - i) (drop a l)) ≡ Err i
    unfolding find_from
    find-blank h = ap (find_from i key) (rest-blank h)

    pub find-used : i < n → (get_or l a 0 ≡ 0 → ⊥) → find_from i key (entries_from (n - i) (drop a l))
        ≡ by_order (cmp key (take (get_or l (a + 1) 0) (drop (a + 8) l))) (Err i) (Ok i) (find_from (i + 1) key (entries_from (n - (i + 1)) (drop (a + 512) l)))
    unfolding find_from decode
    find-used h k =
        ap (find_from i key) (rest-used h k)
        ∙ ap (λ (q : List ℕ). by_order (cmp key q) (Err i) (Ok i) (find_from (i + 1) key (entries_from (n - (i + 1)) (drop (a + 512) l))))
        (ap₂ take (get_or-drop a l 1 0) (drop-drop 8 a l))

    pub find-end : n ≤ i → find_from i key (entries_from (n - i) (drop a l)) ≡ Err i
    unfolding find_from
    find-end h = ap (find_from i key) (rest_end h)
