-- After any of the calls a good store is good, as long as it was, and holds the entries that the call's name says.
use Rattle.std.specs.Prelude.{◌≡◌, Bool, true, false, cond, ℕ, suc, ◌-◌, ◌*◌, ◌≤◌, replicate, Result, Ok, Err}
use Rattle.std.proofs.Math.Path.{refl}
use Rattle.std.proofs.Common.{sym, ap, ap₂, ◌∙◌, subst, length-append, length-take, length-drop, ltb-true}
use mathlib.Core.List.{List, []}
use native.Mathlib.Omega.{arith}
use Rattle.std.proofs.Math.ListN.{length}
use Rattle.std.proofs.lemmas.List.{length-replicate}
use Rattle.store_block.specs.Entry.{Entry, Fit}
use Rattle.store_block.specs.Block.{fit_test}
use Rattle.store_block.specs.DecidesLaws.{agree, says-yes, fit-decides}
use Rattle.store_layout.specs.Entries.{PutAnswer}
use Rattle.store_layout.specs.declared.PutError.TheVariants.{Full, Unfit}
use Rattle.store_layout.specs.Store.{blocks_in, blocks, bytes_of, entries_of, Good, none}
use Rattle.store_layout.specs.Entries.{find_in, put_entry, remove_entry, roomy, has_room, put_answer, when_stored, put_store, delete_store}
use Rattle.store_layout.proofs.StoreLaws.{room, good-bytes, entries-bytes, length-bytes}
use Rattle.store_layout.specs.Splices.{insert_at, replace_at}
use Rattle.store_layout.proofs.EntriesLaws.{in-gap, is_at, put-sorted, put_fit, remove-sorted, remove-fit, remove-short}
use Rattle.store_layout.specs.After.{After}

-- an entry that fits is never Unfit: there is room for it, or the store is full
pub fit-answer : (l : List ℕ) (e : Entry) → Fit e → put_answer l e ≡ cond (has_room l e) (Ok tt) (Err Full)
unfolding put_answer
fit-answer l e f = ap (λ (x : Bool). cond x (cond (has_room l e) (Ok tt) (Err Full)) (Err Unfit)) (agree (fit_test e) true (fit-decides e) (says-yes f))

stored-fit : (l : List ℕ) (e : Entry) → put_answer l e ≡ Ok tt → Fit e
unfolding put_answer
stored-fit l e q = go (fit_test e) refl
  where
    go : (b : Bool) → fit_test e ≡ b → Fit e
    go true h = (fit-decides e).yes h
    go false h = absurd (let a = sym (ap (λ (x : Bool). cond x (cond (has_room l e) (Ok tt) (Err Full)) (Err Unfit)) h) ∙ q in let z : ◌≡◌ {A = ℕ} 0 1 = cc in omega arith)

stored-room : (l : List ℕ) (e : Entry) → put_answer l e ≡ Ok tt → has_room l e ≡ true
unfolding put_answer
stored-room l e q = go (fit_test e) refl (has_room l e) refl
  where
    go : (a : Bool) → fit_test e ≡ a → (b : Bool) → has_room l e ≡ b → has_room l e ≡ true
    go a h true k = k
    go true h false k = absurd (let a = sym (ap₂ (λ (x y : Bool). cond x (cond y (Ok tt) (Err Full)) (Err Unfit)) h k) ∙ q in let z : ◌≡◌ {A = ℕ} 0 1 = cc in omega arith)
    go false h false k = absurd (let a = sym (ap (λ (x : Bool). cond x (cond (has_room l e) (Ok tt) (Err Full)) (Err Unfit)) h) ∙ q in let z : ◌≡◌ {A = ℕ} 0 1 = cc in omega arith)

-- with room, the entries with one put in are no more than the blocks
put-room : (l : List ℕ) (e : Entry) → has_room l e ≡ true → length (put_entry e (entries_of l)) ≤ blocks_in l
unfolding has_room roomy find_in
put-room l e h = go (find_in e.key (entries_of l)) refl
  where
    go : (o : Result ℕ ℕ) → find_in e.key (entries_of l) ≡ o → length (put_entry e (entries_of l)) ≤ blocks_in l
    go (Ok i) q =
        let r = is_at 0 i e (entries_of l) q in
        let w = r.within in
        let m : length (replace_at r.off e (entries_of l)) ≡ length (entries_of l) = simp (length-append, length-take, length-drop) (omega arith) in
        let p = ap length r.put ∙ m in
        let k = room l in
        omega arith
    go (Err i) q =
        let r = in-gap 0 i e (entries_of l) q in
        let w = r.within in
        let m : length (insert_at r.off e (entries_of l)) ≡ suc (length (entries_of l)) = simp (length-append, length-take, length-drop) (omega arith) in
        let p = ap length r.put ∙ m in
        let k = ltb-true (length (entries_of l)) (blocks_in l) (sym (ap (λ (o : Result ℕ ℕ). roomy o (length (entries_of l)) (blocks_in l)) q) ∙ h) in
        omega arith

module _ (l : List ℕ) (g : Good l) where
  made : (es : List Entry) (m : List ℕ) → m ≡ bytes_of (blocks_in l) es → Good (bytes_of (blocks_in l) es) → entries_of (bytes_of (blocks_in l) es) ≡ es → length (bytes_of (blocks_in l) es) ≡ blocks_in l * 512 → After l m es
  made es m q h e n =
      record {
        good = subst (λ (x : List ℕ). Good x) (sym q) h;
        entries = ap entries_of q ∙ e;
        long = let z = ap length q ∙ n in omega arith;
      }

  -- where put answers Stored
  pub put-kept : (e : Entry) → put_answer l e ≡ Ok tt → After l (put_store l e) (put_entry e (entries_of l))
  unfolding put_store when_stored
  put-kept e q =
      let f = stored-fit l e q in
      let n = put-room l e (stored-room l e q) in
      let fs = put_fit e (entries_of l) f g.fit in
      made (put_entry e (entries_of l)) (put_store l e)
      (ap (λ (a : PutAnswer). when_stored a (bytes_of (blocks_in l) (put_entry e (entries_of l))) l) q)
      (good-bytes (blocks_in l) (put_entry e (entries_of l)) g.some g.most fs (put-sorted e (entries_of l) g.sorted) n)
      (entries-bytes (blocks_in l) (put_entry e (entries_of l)) fs n)
      (length-bytes (put_entry e (entries_of l)) (blocks_in l) fs n)

  -- and where it answers Full or Unfit
  pub put_same : (e : Entry) → (put_answer l e ≡ Ok tt → ⊥) → put_store l e ≡ l
  unfolding put_store when_stored
  put_same e n = go (put_answer l e) n
    where
      go : (a : PutAnswer) → (a ≡ Ok tt → ⊥) → when_stored a (bytes_of (blocks_in l) (put_entry e (entries_of l))) l ≡ l
      go (Ok tt) h = absurd (h refl)
      go (Err Full) h = refl
      go (Err Unfit) h = refl

  pub delete-kept : (k : List ℕ) → After l (delete_store l k) (remove_entry k (entries_of l))
  unfolding delete_store
  delete-kept k =
      let es : List Entry = remove_entry k (entries_of l) in
      let fs = remove-fit k (entries_of l) g.fit in
      let n : length es ≤ blocks_in l = let a = remove-short k (entries_of l) in let b = room l in omega arith in
      made es (delete_store l k) refl
      (good-bytes (blocks_in l) es g.some g.most fs (remove-sorted k (entries_of l) g.sorted) n)
      (entries-bytes (blocks_in l) es fs n)
      (length-bytes es (blocks_in l) fs n)

-- blank blocks, 1 to 128 of them, are a good store with no entries
pub blank-kept : (l : List ℕ) → 1 ≤ blocks_in l → blocks_in l ≤ 128 → length l ≡ blocks_in l * 512 → After l (replicate (length l) 0) []
unfolding bytes_of blocks
blank-kept l s m q =
    let n : blocks_in l ≡ blocks_in l - 0 = omega arith in
    let e : replicate (length l) 0 ≡ bytes_of (blocks_in l) [] = ap (λ (x : ℕ). replicate x 0) (q ∙ ap (λ (x : ℕ). x * 512) n) in
    record {
      good = subst (λ (x : List ℕ). Good x) (sym e) (good-bytes (blocks_in l) [] s m none tt (omega arith));
      entries = ap entries_of e ∙ entries-bytes (blocks_in l) [] none (omega arith);
      long = let z = length-replicate {A = ℕ} (length l) 0 in omega arith;
    }
