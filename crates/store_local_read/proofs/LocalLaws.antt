-- Laws of local read: what each way through it says; the part is the value under the key; a key that isn't 1 to 64 bytes is not found.
use Rattle.std.specs.Prelude.{◌≡◌, Bool, true, false, take, Ok, Err, Some, None, Result}
use Rattle.std.proofs.Math.Path.{refl, sym, ap, ap₂}
use Rattle.std.proofs.Common.{◌∙◌, drop-drop, length-take, length-drop}
use Rattle.std.proofs.Math.Bool.{cond}
use mathlib.Core.List.{List, [], ◌∷◌}
use Prim.Native.Nat.{ℕ, zero, suc, ◌+◌, ◌*◌, ◌≤◌, ◌<◌}
use native.Mathlib.Omega.{arith}
use Rattle.std.proofs.Math.Option.{none, some}
use Rattle.std.proofs.Math.ListN.{length, drop, get_or}
use Rattle.std.specs.declared.cmp.Ordering.{Ordering}
use Rattle.std.specs.declared.cmp.Ordering.TheVariants.{Less, Equal, Greater}
use Rattle.store_block.specs.Order.{cmp}
use Rattle.store_block.specs.OrderLaws.{cmp-equal}
use Rattle.store_block.specs.Entry.{Entry, entry, no_entry}
use Rattle.store_block.specs.Block.{decode}
use Rattle.store_layout.specs.declared.Parts.{Parts}
use Rattle.store_layout.specs.Store.{blocks_in, entries_of, store_good, Good, AllFit}
use Rattle.store_layout.proofs.StoreLaws.{room, good_length}
use Rattle.store_layout.proofs.CheckLaws.{store-decides}
use Rattle.store_layout.specs.Entries.{by_order, find_from, find_in, EntryAt}
use Rattle.store_layout.proofs.EntriesLaws.{is_at}
use Rattle.store_find.specs.EntryAtLaws.{entry_place}
use Rattle.store_layout.specs.Lookup as lookup
use Rattle.store_layout.proofs.LookupLaws.{find_at, find-gap}
use Rattle.store_layout.specs.declared.EntryPart.{EntryPart}
use Rattle.store_local_read.specs.declared.StoreBad.{StoreBad}
use Rattle.store_local_read.specs.Local.{Answer, found, not_found, store_bad, answer_of, under, local_of, part_of}

never : {A : Type 0} → ◌≡◌ {A = ℕ} 0 1 → A
never z = absurd (omega arith)

-- the value at a place
abbrev value_at : List ℕ → ℕ → List ℕ
value_at l i = (get_or (entries_of l) i no_entry).value

-- as long as the part that shows it
pub value-length : (l : List ℕ) (i : ℕ) {p : Parts} → EntryAt l i p → Good l → p.value.len ≡ length (value_at l i)
value-length l i {p} e g =
    let n = p.value.len in
    let s = p.value.start in
    let h = e.value_inside in
    let t = length-take n (drop s l) in
    let d = length-drop s l in
    let q : length (take n (drop s l)) ≡ length (value_at l i) = ap (λ (x : Entry). length x.value) (e.same g) in
    omega arith

module _ (l k : List ℕ) where
  pub is-bad : store_good l ≡ false → {b : StoreBad} → answer_of (Err b) ≡ local_of l k
  unfolding local_of
  is-bad h = sym (ap (λ (b : Bool). cond b (under (find_in k (entries_of l)) (entries_of l)) store_bad) h)

  pub good-store : store_good l ≡ true → Good l
  good-store h = (store-decides l).yes h

  judged : store_good l ≡ true → local_of l k ≡ under (find_in k (entries_of l)) (entries_of l)
  unfolding local_of
  judged h = ap (λ (b : Bool). cond b (under (find_in k (entries_of l)) (entries_of l)) store_bad) h

  pub is_found : store_good l ≡ true → (i : ℕ) → Ok i ≡ find_in k (entries_of l) → {r : EntryPart} → r.start ≡ i * 512 + 120 → r.len ≡ length (value_at l i) → answer_of (Ok (Some r)) ≡ local_of l k
  unfolding under
  is_found h i q s n = ap₂ found s n ∙ ap (λ (o : Result ℕ ℕ). under o (entries_of l)) q ∙ sym (judged h)

  pub is-missing : store_good l ≡ true → (i : ℕ) → Err i ≡ find_in k (entries_of l) → answer_of (Ok None) ≡ local_of l k
  unfolding under
  is-missing h i q = ap (λ (o : Result ℕ ℕ). under o (entries_of l)) q ∙ sym (judged h)

-- ---- the part is the value, and lies inside the store

take_own : (n : ℕ) (xs : List ℕ) → take (length (take n xs)) xs ≡ take n xs
take_own zero xs = refl
take_own (suc n) [] = refl
take_own (suc n) (x ∷ xs) = ap (λ (ys : List ℕ). x ∷ ys) (take_own n xs)

module _ (l : List ℕ) (g : Good l) (i : ℕ) (h : i < blocks_in l) where
  -- the bytes of the block that its value stands in
  abbrev space : List ℕ
  space = drop (i * 512 + 120) l

  in-space : (n : ℕ) × (value_at l i ≡ take n space)
  unfolding decode
  in-space =
      let b : List ℕ = drop (i * 512) l in (
        get_or b 4 0 * 256 + get_or b 5 0,
        ap (λ (e : Entry). e.value) (sym (entry_place l g i h)) ∙ ap (take (get_or b 4 0 * 256 + get_or b 5 0)) (drop-drop 120 (i * 512) l),
      )

  pub value_there : take (length (value_at l i)) space ≡ value_at l i
  value_there = let v = in-space in ap (λ (w : List ℕ). take (length w) space) v.1 ∙ take_own v.0 space ∙ sym v.1

  pub value-inside : i * 512 + 120 + length (value_at l i) ≤ length l
  value-inside =
      let v = in-space in
      let e = ap length v.1 in
      let t = length-take v.0 space in
      let d = length-drop (i * 512 + 120) l in
      let m = good_length l g in
      omega arith

module _ (l k : List ℕ) where
  found_below : Good l → (i : ℕ) → find_in k (entries_of l) ≡ Ok i → i < blocks_in l
  unfolding find_in
  found_below g i q =
      let r = is_at 0 i (entry k [] [] [] 0) (entries_of l) q in
      let a = r.place in
      let b = r.within in
      let c = room l in
      omega arith

  -- THE PART OF A LOCAL READ IS THE VALUE UNDER THE KEY
  pub part-value : store_good l ≡ true → (i : ℕ) → find_in k (entries_of l) ≡ Ok i → part_of l (local_of l k) ≡ value_at l i
  unfolding under
  part-value h i q =
      let g = good-store l k h in
      ap (part_of l) (judged l k h ∙ ap (λ (o : Result ℕ ℕ). under o (entries_of l)) q) ∙ value_there l g i (found_below g i q)

  -- a part that is named lies inside
  pub part-inside : (s n : ℕ) → found s n ≡ local_of l k → s + n ≤ length l
  unfolding local_of under
  part-inside s n e = by-check (store_good l) refl e
    where
      by-search : (g : Good l) (o : Result ℕ ℕ) → find_in k (entries_of l) ≡ o → found s n ≡ under o (entries_of l) → s + n ≤ length l
      by-search g (Ok i) q e =
          let p = ap (λ (a : Answer). a.start) e in
          let m = ap (λ (a : Answer). a.len) e in
          let v = value-inside l g i (found_below g i q) in
          omega arith
      by-search g (Err i) q e = never (ap (λ (a : Answer). a.number) e)

      by-check : (b : Bool) → store_good l ≡ b → found s n ≡ cond b (under (find_in k (entries_of l)) (entries_of l)) store_bad → s + n ≤ length l
      by-check true h e = by-search (good-store l k h) (find_in k (entries_of l)) refl e
      by-check false h e = let z = ap (λ (a : Answer). a.number) e in absurd (omega arith)

-- it finds the value of the entry under the key, if there is one
pub local-found : (l k : List ℕ) (e : Entry) → store_good l ≡ true → lookup.under k (entries_of l) ≡ some e
    → ((local_of l k).number ≡ 0) × (part_of l (local_of l k) ≡ e.value)
unfolding under
local-found l k e h u = go (find_in k (entries_of l)) refl
  where
    go : (o : Result ℕ ℕ) → find_in k (entries_of l) ≡ o → ((local_of l k).number ≡ 0) × (part_of l (local_of l k) ≡ e.value)
    go (Ok i) q =
        let x : some (get_or (entries_of l) i no_entry) ≡ some e = sym (find_at k (entries_of l) i q) ∙ u in
        let y : get_or (entries_of l) i no_entry ≡ e = cc in
        (ap (λ (a : Answer). a.number) (judged l k h ∙ ap (λ (o : Result ℕ ℕ). under o (entries_of l)) q), part-value l k h i q ∙ ap (λ (e : Entry). e.value) y)
    go (Err i) q = let x : none ≡ some e = sym (find-gap k (entries_of l) i q) ∙ u in never (cc)

pub local-missing : (l k : List ℕ) → store_good l ≡ true → lookup.under k (entries_of l) ≡ none → local_of l k ≡ not_found
unfolding under
local-missing l k h u = go (find_in k (entries_of l)) refl
  where
    go : (o : Result ℕ ℕ) → find_in k (entries_of l) ≡ o → local_of l k ≡ not_found
    go (Ok i) q = let x : some (get_or (entries_of l) i no_entry) ≡ none = sym (find_at k (entries_of l) i q) ∙ u in never (cc)
    go (Err i) q = judged l k h ∙ ap (λ (o : Result ℕ ℕ). under o (entries_of l)) q

-- ---- "not found (also for a key that isn't 1 to 64 bytes)"
no_such : (j : ℕ) (k : List ℕ) (es : List Entry) → AllFit es → (1 ≤ length k → length k ≤ 64 → ⊥) → under (find_from j k es) [] ≡ not_found
unfolding find_from under by_order
no_such j k [] fs h = refl
no_such j k (x ∷ xs) (AllFit.more f fs) h = go (cmp k x.key) refl (no_such (j + 1) k xs fs h)
  where
    go : (o : Ordering) → cmp k x.key ≡ o → under (find_from (j + 1) k xs) [] ≡ not_found → under (by_order o (Err j) (Ok j) (find_from (j + 1) k xs)) [] ≡ not_found
    go Less q ih = refl
    go Equal q ih =
        let e = ap length (cmp-equal k x.key q) in
        let a = f.key_some in let b = f.key_fits in
        absurd (h (omega arith) (omega arith))
    go Greater q ih = ih

missing-any : (o : Result ℕ ℕ) (es : List Entry) → under o [] ≡ not_found → under o es ≡ not_found
unfolding under
missing-any (Ok i) es h = never (ap (λ (a : Answer). a.number) h)
missing-any (Err i) es h = refl

pub wrong-key : (l k : List ℕ) → store_good l ≡ true → (1 ≤ length k → length k ≤ 64 → ⊥) → local_of l k ≡ not_found
unfolding find_in
wrong-key l k h n = judged l k h ∙ missing-any (find_from 0 k (entries_of l)) (entries_of l) (no_such 0 k (entries_of l) (good-store l k h).fit n)
