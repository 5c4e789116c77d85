-- The ways through each call.
use Rattle.std.specs.Prelude.{◌≡◌, refl, Bool, true, false, cond, List, ℕ, ◌-◌, ◌^◌, ◌≤◌, leb, length, Result}
use Rattle.std.proofs.Common.{sym, ap, ap₂, ◌∙◌, arith, leb-true, leb-false}
use Rattle.store_block.specs.Decides.{Decides}
use Rattle.store_block.specs.DecidesLaws.{says-yes, says-no}
use Rattle.store_block.specs.Entry.{Entry, entry, Sized}
use Rattle.store_block.specs.BlockLaws.{sized}
use Rattle.store_layout.specs.Entries.{PutAnswer}
use Rattle.store_layout.specs.Store.{entries_of, store_good, Good}
use Rattle.store_layout.proofs.CheckLaws.{store-decides}
use Rattle.store_layout.specs.Entries.{Sought, find_in, place_of, put_answer, put_store, delete_answer, delete_store}
use Rattle.store_write.specs.ChangeLaws.{unfit}
use Rattle.bench_store.specs.Calls.{find_of, left, put_number, delete_number, put_of, delete_of}

-- ---- room for the parts
pub room : {k v t w : List ℕ} {a : ℕ} → length k ≤ 64 → length v ≤ 16 → length t ≤ 32 → Decides (leb (length w) 384) (Sized (entry k v t w a))
room {k} {v} {t} {w} {a} f g h = go (leb (length w) 384) refl
  where
    go : (b : Bool) → leb (length w) 384 ≡ b → Decides b (Sized (entry k v t w a))
    go true e = says-yes (record { key_fits = f; version_fits = g; tag_fits = h; value_fits = leb-true (length w) 384 e })
    go false e = says-no (λ s. let m = s.value_fits in let n = leb-false (length w) 384 e in omega arith)

module _ (l : List ℕ) where
  pub good-store : store_good l ≡ true → Good l
  good-store h = (store-decides l).yes h

  chosen : {A : Type 0} (x y : A) {b : Bool} → store_good l ≡ b → cond b x y ≡ cond (store_good l) x y
  chosen x y h = sym (ap (λ (b : Bool). cond b x y) h)

  -- ---- find
  pub not-searched : (k : List ℕ) → store_good l ≡ false → 2 ^ 64 - 1 ≡ find_of l k
  not-searched k h = chosen (place_of (find_in k (entries_of l))) (2 ^ 64 - 1) h

  pub searched : (k : List ℕ) → store_good l ≡ true → {r : Result ℕ ℕ} → Sought l k r → (x : Result ℕ ℕ) → r ≡ x → place_of x ≡ find_of l k
  searched k h s x e = ap place_of (sym e ∙ s.same (good-store h)) ∙ chosen (place_of (find_in k (entries_of l))) (2 ^ 64 - 1) h

  -- ---- put
  module _ (e : Entry) where
    pub not-put : store_good l ≡ false → left 3 l ≡ put_of l e
    not-put h = chosen (left (put_number (put_answer l e)) (put_store l e)) (left 3 l) h

    pub put_as : store_good l ≡ true → {r : PutAnswer} {m : List ℕ} → r ≡ put_answer l e → m ≡ put_store l e → (x : PutAnswer) → r ≡ x → left (put_number x) m ≡ put_of l e
    put_as h q p x y = ap₂ (λ (z : PutAnswer) (m : List ℕ). left (put_number z) m) (sym y ∙ q) p ∙ chosen (left (put_number (put_answer l e)) (put_store l e)) (left 3 l) h

    pub not-sized : store_good l ≡ true → (Sized e → ⊥) → left 2 l ≡ put_of l e
    not-sized h n =
        let u = unfit l (good-store h) e (λ f. n (sized f)) in
        ap₂ (λ (z : PutAnswer) (m : List ℕ). left (put_number z) m) u.0 u.1 ∙ chosen (left (put_number (put_answer l e)) (put_store l e)) (left 3 l) h

  -- ---- delete
  pub not-deleted : (k : List ℕ) → store_good l ≡ false → left 3 l ≡ delete_of l k
  not-deleted k h = chosen (left (delete_number (delete_answer l k)) (delete_store l k)) (left 3 l) h

  pub delete-as : (k : List ℕ) → store_good l ≡ true → {r : Bool} {m : List ℕ} → r ≡ delete_answer l k → m ≡ delete_store l k → (x : Bool) → r ≡ x → left (delete_number x) m ≡ delete_of l k
  delete-as k h q p x y = ap₂ (λ (z : Bool) (m : List ℕ). left (delete_number z) m) (sym y ∙ q) p ∙ chosen (left (delete_number (delete_answer l k)) (delete_store l k)) (left 3 l) h
