-- The report by old place: what each byte says of its block and of the blocks before it.
use Rattle.std.specs.Prelude.{◌≡◌, refl, true, false, cond, take, drop}
use Rattle.std.proofs.Math.Path.{sym, ap, ap₂}
use Rattle.std.proofs.Common.{◌∙◌, subst, not-suc-le-zero, drop-drop}
use Rattle.std.proofs.Math.Logic.{⊎_elim}
use Rattle.std.proofs.Math.Bool.{Bool}
use mathlib.Core.List.{List, [], ◌∷◌, ◌++◌}
use Prim.Native.Nat.{ℕ, zero, suc, ◌+◌, ◌-◌, ◌*◌, ◌≤◌, ◌<◌}
use native.Mathlib.Omega.{arith}
use Rattle.std.proofs.Math.Decide.{dec_lt}
use Rattle.std.proofs.Math.ListN.{length, get_or}
use Rattle.std.proofs.Math.Seq.{get_or-append-add}
use Rattle.store_block.specs.Entry.{Entry}
use Rattle.store_block.specs.Block.{decode}
use Rattle.store_layout.specs.Store.{blocks_in}
use Rattle.store_order_table.specs.Table.{block_at}
use Rattle.store_rescue.specs.declared.state.BlockState.{BlockState}
use Rattle.store_rescue.specs.declared.state.BlockState.TheVariants.{Sound}
use Rattle.store_rescue.specs.State.{state_of}
use Rattle.store_rescue.specs.Rescue.{blocks_from, has_key, report, report_byte, kept_with, kept_from, report_from, report_of}
use Rattle.store_rescue.specs.Kept.{In}
use Rattle.store_rescue.proofs.KeptLaws.{has_in, in-has, still-in, own_in, in-with}
use Rattle.store_rescue.specs.Places.{kept_before, KeptAt, Twin}

blocks-split : (i m : ℕ) (l : List ℕ) → blocks_from (i + m) l ≡ blocks_from i l ++ blocks_from m (drop (i * 512) l)
unfolding blocks_from
blocks-split zero m l = let z : 0 + m ≡ m = omega arith in ap (λ (n : ℕ). blocks_from n l) z
blocks-split (suc i) m l =
    let n : suc i + m ≡ suc (i + m) = omega arith in
    let k : 512 + i * 512 ≡ suc i * 512 = omega arith in
    ap (λ (n : ℕ). blocks_from n l) n
    ∙ ap (λ (bs : List (List ℕ)). take 512 l ∷ bs) (blocks-split i m (drop 512 l) ∙ ap (λ (x : List ℕ). blocks_from i (drop 512 l) ++ blocks_from m x) (drop-drop (i * 512) 512 l ∙ ap (λ (n : ℕ). drop n l) k))

pub length-blocks : (n : ℕ) (l : List ℕ) → length (blocks_from n l) ≡ n
unfolding blocks_from
length-blocks zero l = refl
length-blocks (suc n) l = ap suc (length-blocks n (drop 512 l))

pub length-report : (es : List Entry) (bs : List (List ℕ)) → length (report_from es bs) ≡ length bs
unfolding report_from
length-report es [] = refl
length-report es (b ∷ bs) = ap suc (length-report (kept_with es b) bs)

kept_append : (es : List Entry) (bs cs : List (List ℕ)) → kept_from es (bs ++ cs) ≡ kept_from (kept_from es bs) cs
unfolding kept_from
kept_append es [] cs = refl
kept_append es (b ∷ bs) cs = kept_append (kept_with es b) bs cs

report-append : (es : List Entry) (bs cs : List (List ℕ)) → report_from es (bs ++ cs) ≡ report_from es bs ++ report_from (kept_from es bs) cs
unfolding kept_from report_from
report-append es [] cs = refl
report-append es (b ∷ bs) cs = ap (λ (r : List ℕ). report_byte es b ∷ r) (report-append (kept_with es b) bs cs)

module _ (l : List ℕ) where
  before_more : (i : ℕ) → kept_before l (suc i) ≡ kept_with (kept_before l i) (block_at l i)
  unfolding kept_before kept_from blocks_from block_at
  before_more i =
      let n : suc i ≡ i + 1 = omega arith in
      ap (λ (k : ℕ). kept_from [] (blocks_from k l)) n ∙ ap (kept_from []) (blocks-split i 1 l) ∙ kept_append [] (blocks_from i l) (take 512 (drop (i * 512) l) ∷ [])

  -- a byte of the report is its block's
  pub report-at : (i : ℕ) → i < blocks_in l → get_or (report_of l) i 0 ≡ report_byte (kept_before l i) (block_at l i)
  unfolding report_of kept_before report_from blocks_from block_at
  report-at i h =
      let n : blocks_in l ≡ i + suc (blocks_in l - suc i) = omega arith in
      let bs : List (List ℕ) = blocks_from i l in
      let cs : List (List ℕ) = blocks_from (suc (blocks_in l - suc i)) (drop (i * 512) l) in
      let k : i ≡ length (report_from [] bs) + 0 = let a = length-report [] bs in let b = length-blocks i l in omega arith in
      ap₂ (λ (r : List ℕ) (m : ℕ). get_or r m 0) (ap (λ (m : ℕ). report_from [] (blocks_from m l)) n ∙ ap (report_from []) (blocks-split i (suc (blocks_in l - suc i)) l) ∙ report-append [] bs cs) k
      ∙ get_or-append-add (report_from [] bs) (report_from (kept_from [] bs) cs) 0 0

module _ (l : List ℕ) (e : Entry) where
  pub in_kept : (i : ℕ) → i ≤ blocks_in l → In e (kept_before l i) → KeptAt l i e
  unfolding kept_before kept_from blocks_from
  in_kept zero h w = absurd w
  in_kept (suc i) h w =
      ⊎_elim
      (λ v. let k = in_kept i (omega arith) v in let b = k.before in record { place = k.place; before = omega arith; byte = k.byte; same = k.same })
      (λ v. record { place = i; before = omega arith; byte = report-at l i (omega arith) ∙ v.0; same = sym v.1 })
      (in-with e (kept_before l i) (block_at l i) (subst (λ (es : List Entry). In e es) (before_more l i) w))

  pub kept_in : (i : ℕ) → i ≤ blocks_in l → KeptAt l i e → In e (kept_before l i)
  kept_in zero h k = absurd (not-suc-le-zero k.before)
  kept_in (suc i) h k = go (λ v. kept_in i (omega arith) v)
    where
      go : (KeptAt l i e → In e (kept_before l i)) → In e (kept_before l (suc i))
      go ih =
          let b = k.before in
          subst (λ (es : List Entry). In e es) (sym (before_more l i))
          (elim (dec_lt k.place i) [
            | yes p ↦ still-in e (kept_before l i) (block_at l i) (ih (record { place = k.place; before = p; byte = k.byte; same = k.same }))
            | no p ↦ (let q : k.place ≡ i = omega arith in
                subst (λ (x : Entry). In x (kept_with (kept_before l i) (block_at l i))) (ap (λ (m : ℕ). decode (block_at l m)) (sym q) ∙ k.same)
                (own_in (kept_before l i) (block_at l i) (sym (report-at l i (omega arith)) ∙ ap (λ (m : ℕ). get_or (report_of l) m 0) (sym q) ∙ k.byte)))
          ])

module _ (l : List ℕ) (i : ℕ) (h : i < blocks_in l) where
  -- blank, check wrong, another rule broken: by the block alone
  pub by_state : (s : BlockState) (n : ℕ) → state_of (block_at l i) ≡ s → ((x : Bool) → report x s ≡ n) → get_or (report_of l) i 0 ≡ n
  unfolding report_byte
  by_state s n e f = let x : Bool = has_key (decode (block_at l i)).key (kept_before l i) in report-at l i h ∙ ap (report x) e ∙ f x

  sound-by : (x : Bool) → state_of (block_at l i) ≡ Sound → has_key (decode (block_at l i)).key (kept_before l i) ≡ x → get_or (report_of l) i 0 ≡ cond x 4 1
  unfolding report_byte report
  sound-by x s e = report-at l i h ∙ ap₂ report e s

  pub twin-reported : state_of (block_at l i) ≡ Sound → Twin l i → get_or (report_of l) i 0 ≡ 4
  twin-reported s t =
      let e : Entry = decode (block_at l t.place) in
      let w = kept_in l e i (omega arith) (record { place = t.place; before = t.before; byte = t.byte; same = refl }) in
      sound-by true s (ap (λ (k : List ℕ). has_key k (kept_before l i)) (sym t.same) ∙ in-has e (kept_before l i) w)

  pub first-kept : state_of (block_at l i) ≡ Sound → (Twin l i → ⊥) → get_or (report_of l) i 0 ≡ 1
  first-kept s n = go (has_key (decode (block_at l i)).key (kept_before l i)) refl
    where
      go : (x : Bool) → has_key (decode (block_at l i)).key (kept_before l i) ≡ x → get_or (report_of l) i 0 ≡ 1
      go false e = sound-by false s e
      go true e =
          let w = has_in (decode (block_at l i)).key (kept_before l i) e in
          let k = in_kept l w.entry i (omega arith) w.among in
          absurd (n (record { place = k.place; before = k.before; byte = k.byte; same = ap (λ (x : Entry). x.key) k.same ∙ sym w.same }))
