-- What a range lists, by the run of places between its bounds.
use Rattle.std.specs.Prelude.{◌≡◌, refl, Bool, true, false, not, cond, length, set}
use Rattle.std.proofs.Math.Path.{sym, ap}
use Rattle.std.proofs.Common.{ap₂, ◌∙◌}
use mathlib.Core.List.{List, [], ◌∷◌, ◌++◌, reverse, append-nil, append_assoc}
use Prim.Native.Nat.{ℕ, zero, suc, ◌+◌, ◌-◌, ◌≤◌, ◌<◌}
use native.Mathlib.Omega.{arith}
use Rattle.std.proofs.Math.Decide.{dec_le}
use Rattle.std.proofs.Math.ListN.{take}
use Rattle.std.proofs.Math.Seq.{take-nil}
use Rattle.base_definitions.specs.Lists.{map_l, only}
use Rattle.base_definitions.proofs.OnlyLaws.{only-only, only-reverse, map-reverse, map-append}
use Rattle.base_definitions.specs.Options.{or_else}
use Rattle.store_block.specs.Entry.{Entry}
use Rattle.store_layout.specs.Store.{Sorted}
use Rattle.store_layout.specs.Entries.{below, up_to}
use Rattle.store_layout.proofs.EntriesLaws.{below-most, up_to-most}
use Rattle.protocol.specs.Command.{Range}
use Rattle.protocol.specs.Judge.{in_range, keys_in, keys_of}
use Rattle.operation_visible.specs.declared.Run.{Run}
use Rattle.operation_visible.specs.Runs.{onward, entries_from, skipped_from, skipped}
use Rattle.operation_visible.specs.RunLaws.{none_left, some_left, skip-way}
use Rattle.operation_visible.specs.BoundLaws.{between_run, run-reverse, run-empty}
use Rattle.operation_range.specs.Keys.{key_of, key_at, keys_at, listed, listed_of}

-- how many entries stand before the range, and how many up to its end
abbrev before : Range → List Entry → ℕ
before r es = cond r.start_inclusive (below (or_else [] r.start_key) es) (up_to (or_else [] r.start_key) es)

abbrev up_to_end : Range → List Entry → ℕ
up_to_end r es = cond r.end_inclusive (up_to (or_else [] r.end_key) es) (below (or_else [] r.end_key) es)

in-run : (r : Range) (es : List Entry) → Sorted es → only (λ (e : Entry). in_range r e.key) es ≡ entries_from false (before r es) (up_to_end r es - before r es) es
unfolding in_range
in-run r es s = between_run r.start_inclusive r.end_inclusive (or_else [] r.start_key) (or_else [] r.end_key) es s

-- "ascending, or descending with reverse": the run, from its first place or from its last
in_order : (v : Bool) (a b : ℕ) (es : List Entry) → cond v (reverse (entries_from false a (b - a) es)) (entries_from false a (b - a) es) ≡ entries_from v (cond v (b - 1) a) (b - a) es
in_order false a b es = refl
in_order true a b es =
    run-reverse a (b - a) es
    ∙ elim (dec_le a b) [
      | yes h ↦ (let z : a + (b - a) - 1 ≡ b - 1 = omega arith in ap (λ i. entries_from true i (b - a) es) z)
      | no h ↦ (
          let z : b - a ≡ 0 = omega arith in
          run-empty true (a + (b - a) - 1) (b - a) es z ∙ sym (run-empty true (b - 1) (b - a) es z))
    ]

-- "lists only keys that a usable RANGE scope fits, and maxReturned counts after that"
keys-seen : (f : Entry → Bool) (r : Range) (es : List Entry) → Sorted es
    → keys_of r (only f es) ≡ take r.max_returned (map_l key_of (only f (entries_from r.reverse (cond r.reverse (up_to_end r es - 1) (before r es)) (up_to_end r es - before r es) es)))
unfolding keys_of keys_in
keys-seen f r es s =
    let test : Entry → Bool = λ (e : Entry). in_range r e.key in
    let run = entries_from false (before r es) (up_to_end r es - before r es) es in
    let e : only test (only f es) ≡ only f run = only-only test f es ∙ ap (only f) (in-run r es s) in
    ap (λ xs. take r.max_returned (cond r.reverse (reverse (map_l key_of xs)) (map_l key_of xs))) e
    ∙ ap (take r.max_returned) (go r.reverse run)
    ∙ ap (λ xs. take r.max_returned (map_l key_of (only f xs))) (in_order r.reverse (before r es) (up_to_end r es) es)
  where
    go : (v : Bool) (xs : List Entry) → cond v (reverse (map_l key_of (only f xs))) (map_l key_of (only f xs)) ≡ map_l key_of (only f (cond v (reverse xs) xs))
    go false xs = refl
    go true xs = map-reverse key_of (only f xs) ∙ ap (map_l key_of) (only-reverse f xs)

-- the same by the bounds that the code finds
pub range-law : (f : Entry → Bool) (r : Range) (es : List Entry) (low high first count : ℕ) → Sorted es
    → low ≡ cond r.start_inclusive (below (or_else [] r.start_key) es) (up_to (or_else [] r.start_key) es)
    → high ≡ cond (not r.end_inclusive) (below (or_else [] r.end_key) es) (up_to (or_else [] r.end_key) es)
    → first ≡ cond r.reverse (high - 1) low → count ≡ high - low
    → take r.max_returned (map_l key_of (only f (entries_from r.reverse first count es))) ≡ keys_of r (only f es)
range-law f r es low high first count s x y p q =
    let z = y ∙ turned r.end_inclusive (below (or_else [] r.end_key) es) (up_to (or_else [] r.end_key) es) in
    ap₂ (λ i n. take r.max_returned (map_l key_of (only f (entries_from r.reverse i n es)))) (p ∙ ap₂ (λ h l. cond r.reverse (h - 1) l) z x) (q ∙ ap₂ (λ h l. h - l) z x)
    ∙ sym (keys-seen f r es s)
  where
    turned : (b : Bool) (x y : ℕ) → cond (not b) x y ≡ cond b y x
    turned true x y = refl
    turned false x y = refl

-- the bounds lie inside the store
pub bound-most : (b : Bool) (k : List ℕ) (es : List Entry) → cond b (below k es) (up_to k es) ≤ length es
bound-most true k es = below-most k es
bound-most false k es = up_to-most k es

pub first-most : (b : Bool) (m a n : ℕ) → m ≤ n → a ≤ n → cond b (m - 1) a ≤ n
first-most true m a n h k = omega arith
first-most false m a n h k = k

-- ---- the loop that lists

put_last : (l : List ℕ) (i v : ℕ) → i < length l → take (suc i) (set l i v) ≡ take i l ++ (v ∷ [])
put_last [] i v h = absurd (omega arith)
put_last (x ∷ xs) zero v h = refl
put_last (x ∷ xs) (suc i) v h = ap (λ l. x ∷ l) (put_last xs i v (omega arith))

module _ (f : Entry → Bool) (es : List Entry) (b : Bool) (most : ℕ) where
  pub list-more : (places : List ℕ) (n i count : ℕ) → n < length places → n < most → ((skipped_from f es b i count).count ≡ 0 → ⊥)
      → let left = skipped_from f es b i count in listed f es b most (set places n left.first) (n + 1) (onward b left.first) (left.count - 1) ≡ listed f es b most places n i count
  unfolding map_l
  list-more places n i count h k m =
      let left = skipped_from f es b i count in
      let key = key_at es left.first in
      let rest = map_l key_of (only f (entries_from b (onward b left.first) (left.count - 1) es)) in
      let one : n + 1 ≡ suc n = omega arith in
      let more : most - n ≡ suc (most - (n + 1)) = omega arith in
      ap (λ j. keys_at es (take j (set places n left.first)) ++ take (most - (n + 1)) rest) one
      ∙ ap (λ l. keys_at es l ++ take (most - (n + 1)) rest) (put_last places n left.first h)
      ∙ ap (λ ks. ks ++ take (most - (n + 1)) rest) (map-append (key_at es) (take n places) (left.first ∷ []))
      ∙ append_assoc (keys_at es (take n places)) (key ∷ []) (take (most - (n + 1)) rest)
      ∙ ap (λ j. keys_at es (take n places) ++ take j (key ∷ rest)) (sym more)
      ∙ ap (λ xs. keys_at es (take n places) ++ take (most - n) (map_l key_of xs)) (sym (some_left f es b i count m))

  pub list-start : (places : List ℕ) (i count : ℕ) → listed f es b most places 0 i count ≡ take most (map_l key_of (only f (entries_from b i count es)))
  unfolding map_l
  list-start places i count = let z : most - 0 ≡ most = omega arith in ap (λ j. take j (map_l key_of (only f (entries_from b i count es)))) z

  pub list_full : (places : List ℕ) (n i count : ℕ) → most ≤ n → keys_at es (take n places) ≡ listed f es b most places n i count
  list_full places n i count h =
      let z : most - n ≡ 0 = omega arith in
      sym (append-nil (keys_at es (take n places))) ∙ ap (λ j. keys_at es (take n places) ++ take j (map_l key_of (only f (entries_from b i count es)))) (sym z)

  pub list-ended : (places : List ℕ) (n i count : ℕ) → (skipped_from f es b i count).count ≡ 0 → keys_at es (take n places) ≡ listed f es b most places n i count
  unfolding map_l
  list-ended places n i count h =
      sym (append-nil (keys_at es (take n places)))
      ∙ ap (λ ks. keys_at es (take n places) ++ ks) (sym (take-nil (most - n)))
      ∙ ap (λ xs. keys_at es (take n places) ++ take (most - n) (map_l key_of xs)) (sym (none_left f es b i count h))

-- one place more, of a run whose way the rest of it keeps
pub list_next : (f : Entry → Bool) (es : List Entry) (most : ℕ) (places : List ℕ) (n : ℕ) (r : Run) → n < length places → n < most
    → let left = skipped f es r in (left.count ≡ 0 → ⊥)
    → listed f es left.reverse most (set places n left.first) (n + 1) (onward left.reverse left.first) (left.count - 1) ≡ listed_of f es most places n r
list_next f es most places n r h k m =
    let left = skipped f es r in
    ap (λ (b : Bool). listed f es b most (set places n left.first) (n + 1) (onward b left.first) (left.count - 1)) (skip-way f es r.reverse r.first r.count)
    ∙ list-more f es r.reverse most places n r.first r.count h k m
