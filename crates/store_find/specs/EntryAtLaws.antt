-- The entry at a place of a good store, as its block has it.
use Rattle.std.specs.Prelude.{◌≡◌, take}
use Rattle.std.proofs.Math.Path.{sym, ap}
use Rattle.std.proofs.Common.{ap₂, ◌∙◌, not-suc-le-zero, le_of_suc-le-suc, drop-cons, drop-drop, drop_at}
use mathlib.Core.List.{List, [], ◌∷◌, ◌++◌, append_assoc}
use Prim.Native.Nat.{ℕ, zero, suc, ◌+◌, ◌-◌, ◌*◌, ◌≤◌, ◌<◌, min}
use native.Mathlib.Omega.{arith}
use Rattle.std.proofs.Math.Decide.{dec_lt}
use Rattle.std.proofs.Math.Seq.{get_or-drop}
use Rattle.std.proofs.Math.ListN.{length, get_or, drop, replicate, length-take, length-drop, get_or-eq_default}
use Rattle.std.proofs.lemmas.List.{length-replicate, get_or-replicate, replicate-append-replicate}
use Rattle.store_block.specs.Entry.{Entry, entry, no_entry, Fit}
use Rattle.store_block.specs.Block.{block, decode}
use Rattle.store_block.specs.BlockLaws.{sized, decode-block}
use Rattle.store_layout.specs.Store.{blocks_in, blocks, bytes_of, entries_of, AllFit, Good}
use Rattle.store_layout.specs.Entries.{EntryAt, no_parts}
use Rattle.store_layout.proofs.StoreLaws.{room, good_length, length-blocks, drop-bytes}

by_cases {ℓ} : {X : Type ℓ} (a b : ℕ) → (a < b → X) → (b ≤ a → X) → X
by_cases {X = X} a b f g = elim (dec_lt a b) [ yes p ↦ f p | no p ↦ g (omega arith) ]

fit_at : (es : List Entry) (i : ℕ) → AllFit es → i < length es → Fit (get_or es i no_entry)
fit_at [] i fs h = absurd (not-suc-le-zero h)
fit_at (e ∷ es) zero (AllFit.more f fs) h = f
fit_at (e ∷ es) (suc i) (AllFit.more f fs) h = fit_at es i fs (le_of_suc-le-suc h)

zero-at : (m j : ℕ) → get_or {A = ℕ} (replicate m 0) j 0 ≡ 0
zero-at m j =
    by_cases j m (λ h. get_or-replicate m j 0 0 h)
    (λ h. get_or-eq_default (replicate m 0) 0 (let q = length-replicate {A = ℕ} m 0 in omega arith))

drop-zeros : (k m : ℕ) → k ≤ m → drop k (replicate m 0) ≡ replicate {A = ℕ} (m - k) 0
drop-zeros k m h =
    let e : m ≡ k + (m - k) = omega arith in
    ap (λ (x : ℕ). drop k (replicate x 0)) e ∙ ap (drop k) (sym (replicate-append-replicate k (m - k) 0)) ∙ drop_at (replicate k 0) (replicate (m - k) 0) k (length-replicate k 0)

decode-zeros : (m : ℕ) → decode (replicate m 0) ≡ no_entry
unfolding decode
decode-zeros m =
    let b : List ℕ = replicate m 0 in
    let p1 = zero-at m 1 in let p2 = zero-at m 2 in let p3 = zero-at m 3 in let p4 = zero-at m 4 in let p5 = zero-at m 5 in let p6 = zero-at m 6 in
    let pn : get_or b 4 0 * 256 + get_or b 5 0 ≡ 0 = omega arith in
    λ i. record { key = take (p1 i) (drop 8 b); version = take (p2 i) (drop 72 b); tag = take (p3 i) (drop 88 b); value = take (pn i) (drop 120 b); algorithm = p6 i }

module _ (l : List ℕ) (g : Good l) (i : ℕ) where
  in_block : i < length (entries_of l) → decode (drop (i * 512) l) ≡ get_or (entries_of l) i no_entry
  unfolding blocks
  in_block h =
      let es : List Entry = entries_of l in
      let x : Entry = get_or es i no_entry in
      ap decode
      (ap (drop (i * 512)) g.same ∙ drop-bytes es (blocks_in l) i g.fit (omega arith) (room l)
      ∙ ap (λ (ys : List Entry). blocks ys ++ replicate ((blocks_in l - length es) * 512) 0) (drop-cons es i no_entry h)
      ∙ append_assoc (block x) (blocks (drop (suc i) es)) _)
      ∙ decode-block x _ (sized (fit_at es i g.fit h))

  in-blank : length (entries_of l) ≤ i → i < blocks_in l → decode (drop (i * 512) l) ≡ get_or (entries_of l) i no_entry
  unfolding bytes_of
  in-blank h k =
      let es : List Entry = entries_of l in
      let z : ℕ = (blocks_in l - length es) * 512 in
      let b = length-blocks es g.fit in
      let p : i * 512 ≡ length es * 512 + (i * 512 - length es * 512) = omega arith in
      ap decode
      (ap₂ drop p g.same ∙ sym (drop-drop (i * 512 - length es * 512) (length es * 512) (blocks es ++ replicate z 0))
      ∙ ap (drop (i * 512 - length es * 512)) (drop_at (blocks es) (replicate z 0) (length es * 512) b)
      ∙ drop-zeros (i * 512 - length es * 512) z (omega arith))
      ∙ decode-zeros (z - (i * 512 - length es * 512))
      ∙ sym (get_or-eq_default es no_entry h)

  pub entry_place : i < blocks_in l → decode (drop (i * 512) l) ≡ get_or (entries_of l) i no_entry
  entry_place k = by_cases i (length (entries_of l)) in_block (λ h. in-blank h k)

  pub no_place : blocks_in l ≤ i → no_entry ≡ get_or (entries_of l) i no_entry
  no_place k = sym (get_or-eq_default (entries_of l) no_entry (let r = room l in omega arith))

  value-short : length (get_or (entries_of l) i no_entry).value ≤ 384
  value-short =
      by_cases i (length (entries_of l)) (λ h. (fit_at (entries_of l) i g.fit h).value_fits)
      (λ h. let q : length (get_or (entries_of l) i no_entry).value ≡ 0 = ap (λ (e : Entry). length e.value) (get_or-eq_default (entries_of l) no_entry h) in omega arith)

  pub value-long : i < blocks_in l → get_or l (i * 512 + 4) 0 * 256 + get_or l (i * 512 + 5) 0 ≤ 384
  unfolding decode
  value-long k =
      let d : List ℕ = drop (i * 512) l in
      let n : ℕ = get_or d 4 0 * 256 + get_or d 5 0 in
      let s = value-short in
      let q : length (take n (drop 120 d)) ≡ length (get_or (entries_of l) i no_entry).value = ap (λ (e : Entry). length e.value) (entry_place k) in
      let t : length (take n (drop 120 d)) ≡ min n (length (drop 120 d)) = length-take n (drop 120 d) in
      let w = length-drop 120 d in
      let v = length-drop (i * 512) l in
      let m = good_length l g in
      let g4 = get_or-drop (i * 512) l 4 0 in
      let g5 = get_or-drop (i * 512) l 5 0 in
      omega arith

-- the parts of a block as they lie in the store
pub parts-here : (l : List ℕ) (a k v t n : ℕ) → k ≡ get_or l (a + 1) 0 → v ≡ get_or l (a + 2) 0 → t ≡ get_or l (a + 3) 0 → n ≡ get_or l (a + 4) 0 * 256 + get_or l (a + 5) 0
    → entry (take k (drop (a + 8) l)) (take v (drop (a + 72) l)) (take t (drop (a + 88) l)) (take n (drop (a + 120) l)) (get_or l (a + 6) 0) ≡ decode (drop a l)
unfolding decode
parts-here l a k v t n p q r s =
    let e1 : k ≡ get_or (drop a l) 1 0 = p ∙ sym (get_or-drop a l 1 0) in
    let e2 : v ≡ get_or (drop a l) 2 0 = q ∙ sym (get_or-drop a l 2 0) in
    let e3 : t ≡ get_or (drop a l) 3 0 = r ∙ sym (get_or-drop a l 3 0) in
    let e4 : n ≡ get_or (drop a l) 4 0 * 256 + get_or (drop a l) 5 0 = s ∙ ap₂ (λ (x y : ℕ). x * 256 + y) (sym (get_or-drop a l 4 0)) (sym (get_or-drop a l 5 0)) in
    let e6 : get_or l (a + 6) 0 ≡ get_or (drop a l) 6 0 = sym (get_or-drop a l 6 0) in
    let d1 = sym (drop-drop 8 a l) in
    let d2 = sym (drop-drop 72 a l) in
    let d3 = sym (drop-drop 88 a l) in
    let d4 = sym (drop-drop 120 a l) in
    λ i. record { key = take (e1 i) (d1 i); version = take (e2 i) (d2 i); tag = take (e3 i) (d3 i); value = take (e4 i) (d4 i); algorithm = e6 i }

-- no parts at a place with no entry
pub nowhere : (l : List ℕ) (i : ℕ) → (Good l → no_entry ≡ get_or (entries_of l) i no_entry) → EntryAt l i no_parts
nowhere l i h = record { key_inside = omega arith; version_inside = omega arith; tag_inside = omega arith; value_inside = omega arith; same = h }
