-- The blocks looked at one after the other, and then put in order.
use Rattle.std.specs.Prelude.{◌≡◌, refl, Bool, true, false, eqb, set}
use Rattle.std.proofs.Math.Path.{sym, ap, ap₂, subst}
use Rattle.std.proofs.Common.{◌∙◌, take-suc-set, drop-drop, length-take-le, eq-eqb, ne_eqb}
use Rattle.std.proofs.Math.Bool.{cond}
use mathlib.Core.List.{List, [], ◌∷◌, ◌++◌, append_assoc, append-nil}
use Prim.Native.Nat.{ℕ, suc, ◌+◌, ◌-◌, ◌*◌, ◌≤◌, ◌<◌}
use native.Mathlib.Omega.{arith}
use Rattle.std.proofs.Math.Numerals.{add-one}
use Rattle.std.proofs.Math.ListN.{length, take, drop, replicate, length-set}
use Rattle.std.proofs.Math.Seq.{take_all}
use Rattle.store_block.specs.Entry.{Entry}
use Rattle.store_block.specs.Block.{block, decode}
use Rattle.store_layout.specs.Store.{blocks_in, size_good, blocks, bytes_of}
use Rattle.store_layout.specs.Size.{SizeGood}
use Rattle.store_order_table.specs.Table.{block_at, entries_at, Names}
use Rattle.store_order_table.specs.TableLaws.{length-entries, entry-at}
use Rattle.store_order_table.specs.HalvingLaws.{sorted_apart}
use Rattle.store_arrange.specs.Moves.{blocks_at, arranged, Distinct}
use Rattle.store_rescue.specs.Rescue.{blocks_from, kept_from, report_from, kept_of, report_of, rescued_store, outcome, rescue_of}
use Rattle.store_rescue.specs.Listed.{Each, Kept, Listed, Judged}
use Rattle.store_rescue.proofs.ListedLaws.{each_at, decode-at}
use Rattle.store_rescue.specs.Survey.{rest, Surveying, Surveyed}

module _ (l : List ℕ) where
  pub surveying-start : (r o : List ℕ) → length r ≡ blocks_in l → length o ≡ 128 → Surveying l 0 0 r o
  unfolding entries_at report_of kept_of
  surveying-start r o e f =
      let z : blocks_in l - 0 ≡ blocks_in l = omega arith in
      record {
        long = e;
        listed = record { room = f; few = omega arith; each = tt; sorted = tt };
        told = ap (λ (n : ℕ). report_from [] (blocks_from n l)) z;
        entries = ap (λ (n : ℕ). kept_from [] (blocks_from n l)) z;
      }

  rest_more : (i : ℕ) → i < blocks_in l → rest l i ≡ block_at l i ∷ rest l (i + 1)
  unfolding blocks_from block_at
  rest_more i h =
      let n : blocks_in l - i ≡ suc (blocks_in l - (i + 1)) = omega arith in
      let m : i * 512 + 512 ≡ (i + 1) * 512 = omega arith in
      ap (λ (k : ℕ). blocks_from k (drop (i * 512) l)) n
      ∙ ap (λ (x : List ℕ). take 512 (drop (i * 512) l) ∷ blocks_from (blocks_in l - (i + 1)) x) (drop-drop 512 (i * 512) l ∙ ap (λ (k : ℕ). drop k l) m)

  pub surveying-more : (i kept : ℕ) (r o : List ℕ) (byte kept' : ℕ) (o' : List ℕ) → i < blocks_in l
      → Surveying l i kept r o → Judged l i kept o byte kept' o' → Surveying l (i + 1) kept' (set r i byte) o'
  unfolding report_from kept_from
  surveying-more i kept r o byte kept' o' h s j =
      let es : List Entry = entries_at l (take kept o) in
      let es' : List Entry = entries_at l (take kept' o') in
      let m = rest_more i h in
      let n = s.long in
      let front : take (i + 1) (set r i byte) ≡ take i r ++ (byte ∷ []) = rw add-one (take-suc-set r i byte (omega arith)) in
      record {
        long = length-set r i byte ∙ n;
        listed = j.listed;
        told = ap (λ (x : List ℕ). x ++ report_from es' (rest l (i + 1))) front
            ∙ append_assoc (take i r) (byte ∷ []) (report_from es' (rest l (i + 1)))
            ∙ ap₂ (λ (x : ℕ) (xs : List Entry). take i r ++ (x ∷ report_from xs (rest l (i + 1)))) j.told j.entries
            ∙ ap (λ (bs : List (List ℕ)). take i r ++ report_from es bs) (sym m)
            ∙ s.told;
        entries = ap (λ (xs : List Entry). kept_from xs (rest l (i + 1))) j.entries ∙ ap (kept_from es) (sym m) ∙ s.entries;
      }

  pub surveyed : (i kept : ℕ) (r o : List ℕ) → i ≡ blocks_in l → Surveying l i kept r o → Surveyed l kept r o
  unfolding report_from kept_from blocks_from
  surveyed i kept r o e s =
      let z : blocks_in l - i ≡ 0 = omega arith in
      let none : rest l i ≡ [] = ap (λ (n : ℕ). blocks_from n (drop (i * 512) l)) z in
      let n = s.long in
      record {
        listed = subst (λ (n : ℕ). Listed l n kept o) e s.listed;
        told = sym (ap (λ (bs : List (List ℕ)). take i r ++ report_from (entries_at l (take kept o)) bs) none ∙ append-nil (take i r) ∙ take_all i r (omega arith)) ∙ s.told;
        entries = sym (ap (kept_from (entries_at l (take kept o))) none) ∙ s.entries;
      }

-- ---- what the table asks for of the store
good-blocks : (l ks : List ℕ) (i : ℕ) → Each (Kept l i) ks → blocks_at l ks ≡ blocks (entries_at l ks)
unfolding blocks_at blocks entries_at
good-blocks l [] i a = refl
good-blocks l (k ∷ ks) i a =
    let g = a.0.good in
    ap₂ (λ (x y : List ℕ). x ++ y) (sym (ap block (decode-at l k g) ∙ g.same)) (good-blocks l ks i a.1)

module _ (l : List ℕ) (z : SizeGood l) (kept : ℕ) (r o : List ℕ) (s : Surveyed l kept r o) where
  few : kept ≤ blocks_in l
  few = s.listed.few

  count : length (take kept o) ≡ kept
  count = let f = few in let m = z.most in let n = s.listed.room in length-take-le kept o (omega arith)

  pub names : Names l (take kept o)
  names = record { each = λ m h. (each_at (Kept l (blocks_in l)) (take kept o) m s.listed.each h).low }

  pub distinct : Distinct (take kept o)
  distinct =
      let ks : List ℕ = take kept o in
      let n = length-entries l ks in
      record {
        each = λ i m h g e.
            sorted_apart (entries_at l ks) i m s.listed.sorted h (omega arith)
            (ap (λ (x : Entry). x.key) (entry-at l ks i (omega arith) ∙ ap (λ (k : ℕ). decode (drop (k * 512) l)) e ∙ sym (entry-at l ks m g)));
      }

  pub fits : (kept ≤ 128) × (kept * 512 ≤ length l)
  fits = let f = few in let m = z.most in let w = z.whole in (omega arith, omega arith)

  pub put_right : arranged l (take kept o) ≡ rescued_store l
  unfolding arranged rescued_store bytes_of
  put_right =
      let ks : List ℕ = take kept o in
      let w = z.whole in
      let n = length-entries l ks in
      let zeros : length l - length ks * 512 ≡ (blocks_in l - length (entries_at l ks)) * 512 = omega arith in
      ap₂ (λ (x : List ℕ) (m : ℕ). x ++ replicate m 0) (good-blocks l ks (blocks_in l) s.listed.each) zeros
      ∙ ap (λ (es : List Entry). blocks es ++ replicate ((blocks_in l - length es) * 512) 0) s.entries

-- ---- the three answers
module _ (l r : List ℕ) where
  pub store-refused : size_good l ≡ false → outcome 2 l r ≡ rescue_of l r
  unfolding rescue_of
  store-refused e = sym (ap (λ (x : Bool). cond x (cond (eqb (length r) (blocks_in l)) (outcome 0 (rescued_store l) (report_of l)) (outcome 8 l r)) (outcome 2 l r)) e)

  pub report-refused : size_good l ≡ true → (length r ≡ blocks_in l → ⊥) → outcome 8 l r ≡ rescue_of l r
  unfolding rescue_of
  report-refused e n =
      sym (ap₂ (λ (x y : Bool). cond x (cond y (outcome 0 (rescued_store l) (report_of l)) (outcome 8 l r)) (outcome 2 l r)) e (ne_eqb (length r) (blocks_in l) n))

  pub done : (l' r' : List ℕ) → size_good l ≡ true → length r ≡ blocks_in l → l' ≡ rescued_store l → r' ≡ report_of l → outcome 0 l' r' ≡ rescue_of l r
  unfolding rescue_of
  done l' r' e n p q =
      ap₂ (λ (x y : List ℕ). outcome 0 x y) p q
      ∙ sym (ap₂ (λ (x y : Bool). cond x (cond y (outcome 0 (rescued_store l) (report_of l)) (outcome 8 l r)) (outcome 2 l r)) e (eq-eqb (length r) (blocks_in l) n))
