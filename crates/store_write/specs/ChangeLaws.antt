-- What put and delete do to the bytes of a good store.
use Rattle.std.specs.Prelude.{◌≡◌, Bool, ltb, length, take, drop, replicate, Result, Ok, Err}
use Rattle.std.proofs.Math.Path.{refl, sym, ap, ap₂}
use Rattle.std.proofs.Common.{◌∙◌}
use Rattle.std.proofs.Math.Bool.{true, false, cond}
use mathlib.Core.List.{List, []}
use Prim.Native.Nat.{ℕ, ◌+◌, ◌-◌, ◌*◌, ◌≤◌, ◌<◌}
use native.Mathlib.Omega.{arith}
use borrow.Author.Tests.{lt-ltb, le-ltb}
use Rattle.store_block.specs.Entry.{Entry, entry, Fit}
use Rattle.store_block.specs.Block.{block, decode, BlockGood, fit_test}
use Rattle.store_block.specs.DecidesLaws.{agree, says-yes, says-no, fit-decides}
use Rattle.store_block.specs.Over.{over}
use Rattle.store_layout.specs.Entries.{PutAnswer}
use Rattle.store_layout.specs.declared.PutError.TheVariants.{Full, Unfit}
use Rattle.store_layout.specs.Store.{blocks_in, bytes_of, entries_of, Good}
use Rattle.store_layout.specs.Entries.{find_in, put_entry, roomy, has_room, put_answer, when_stored, put_store, delete_of, delete_answer, delete_store}
use Rattle.store_layout.proofs.StoreLaws.{room, insert-bytes, replace-bytes, remove-bytes}
use Rattle.store_layout.specs.Splices.{insert_at, replace_at, remove_at}
use Rattle.store_layout.proofs.EntriesLaws.{in-gap, is_at}
use Rattle.store_write.specs.Change.{insert_answer, insert_store}

module _ (l : List ℕ) (g : Good l) where
  pub full : blocks_in l ≤ length (entries_of l) → (i : ℕ) (e : Entry) → ((Err Full) ≡ insert_answer l) × (l ≡ insert_store l i e)
  unfolding insert_answer insert_store
  full h i e =
      let b = le-ltb (length (entries_of l)) (blocks_in l) h in
      (sym (ap (λ (x : Bool). cond x (Ok tt) (Err Full)) b), sym (ap (λ (x : Bool). cond x (bytes_of (blocks_in l) (insert_at i e (entries_of l))) l) b))

  pub opened : length (entries_of l) < blocks_in l → (Ok tt) ≡ insert_answer l
  unfolding insert_answer
  opened h = sym (ap (λ (x : Bool). cond x (Ok tt) (Err Full)) (lt-ltb (length (entries_of l)) (blocks_in l) h))

  pub inserted : length (entries_of l) < blocks_in l → (i : ℕ) (b : List ℕ) → BlockGood b → i ≤ length (entries_of l) → (u : ℕ) → u ≡ length (entries_of l)
      → over (over l (i * 512 + 512) (take (u * 512 - i * 512) (drop (i * 512) l))) (i * 512) b ≡ insert_store l i (decode b)
  unfolding insert_store
  inserted h i b d k u e =
      let es : List Entry = entries_of l in
      let n : ℕ = blocks_in l in
      ap₂ (λ (x : List ℕ) (y : ℕ). over (over x (i * 512 + 512) (take (y * 512 - i * 512) (drop (i * 512) x))) (i * 512) b) g.same e
      ∙ ap (λ (x : List ℕ). over (over (bytes_of n es) (i * 512 + 512) (take (length es * 512 - i * 512) (drop (i * 512) (bytes_of n es)))) (i * 512) x) (sym d.same)
      ∙ insert-bytes es n i g.fit (room l) (decode b) d.fit k h
      ∙ sym (ap (λ (x : Bool). cond x (bytes_of n (insert_at i (decode b) es)) l) (lt-ltb (length es) n h))

  pub removed : (i : ℕ) → i < length (entries_of l) → (u : ℕ) → u ≡ length (entries_of l)
      → over (over l (i * 512) (take (u * 512 - 512 - i * 512) (drop (i * 512 + 512) l))) (u * 512 - 512) (replicate 512 0) ≡ bytes_of (blocks_in l) (remove_at i (entries_of l))
  removed i h u e =
      let es : List Entry = entries_of l in
      ap₂ (λ (x : List ℕ) (y : ℕ). over (over x (i * 512) (take (y * 512 - 512 - i * 512) (drop (i * 512 + 512) x))) (y * 512 - 512) (replicate 512 0)) g.same e
      ∙ remove-bytes es (blocks_in l) i g.fit (room l) h

  -- ---- put
  module _ (e : Entry) where
    fits : Fit e → fit_test e ≡ true
    fits f = agree (fit_test e) true (fit-decides e) (says-yes f)

    stored_answer : (r : PutAnswer) → Fit e → cond (has_room l e) (Ok tt) (Err Full) ≡ r → put_answer l e ≡ r
    unfolding put_answer
    stored_answer r f q = ap (λ (x : Bool). cond x (cond (has_room l e) (Ok tt) (Err Full)) (Err Unfit)) (fits f) ∙ q

    stored_bytes : (r : PutAnswer) → put_answer l e ≡ r → put_store l e ≡ when_stored r (bytes_of (blocks_in l) (put_entry e (entries_of l))) l
    unfolding put_store
    stored_bytes r q = ap (λ (x : PutAnswer). when_stored x (bytes_of (blocks_in l) (put_entry e (entries_of l))) l) q

    pub unfit : (Fit e → ⊥) → ((Err Unfit) ≡ put_answer l e) × (l ≡ put_store l e)
    unfolding put_answer when_stored
    unfit n =
        let a : put_answer l e ≡ Err Unfit = ap (λ (x : Bool). cond x (cond (has_room l e) (Ok tt) (Err Full)) (Err Unfit)) (agree (fit_test e) false (fit-decides e) (says-no n)) in
        (sym a, sym (stored_bytes (Err Unfit) a))

    pub at_low : (i : ℕ) → Ok i ≡ find_in e.key (entries_of l) → i < length (entries_of l)
    unfolding find_in
    at_low i q = let r = is_at 0 i e (entries_of l) (sym q) in let r1 = r.place in let r2 = r.within in omega arith

    pub gap-low : (i : ℕ) → Err i ≡ find_in e.key (entries_of l) → i ≤ length (entries_of l)
    unfolding find_in
    gap-low i q = let r = in-gap 0 i e (entries_of l) (sym q) in let r1 = r.place in let r2 = r.within in omega arith

    pub replaced : Fit e → (i : ℕ) → Ok i ≡ find_in e.key (entries_of l) → ((Ok tt) ≡ put_answer l e) × (over l (i * 512) (block e) ≡ put_store l e)
    unfolding find_in has_room roomy when_stored
    replaced f i q =
        let es : List Entry = entries_of l in
        let n : ℕ = blocks_in l in
        let r = is_at 0 i e es (sym q) in
        let off : r.off ≡ i = let z = r.place in omega arith in
        let p = r.put in
        let a : put_answer l e ≡ Ok tt = stored_answer (Ok tt) f (ap (λ (o : Result ℕ ℕ). cond (roomy o (length es) n) (Ok tt) (Err Full)) (sym q)) in (
          sym a,
          ap (λ (x : List ℕ). over x (i * 512) (block e)) g.same
              ∙ replace-bytes es n i g.fit (room l) e f (at_low i q)
              ∙ ap (bytes_of n) (ap (λ (d : ℕ). replace_at d e es) (sym off) ∙ sym p)
              ∙ sym (stored_bytes (Ok tt) a),
        )

    pub put_in : Fit e → (i : ℕ) → Err i ≡ find_in e.key (entries_of l) → (insert_answer l ≡ put_answer l e) × (insert_store l i e ≡ put_store l e)
    unfolding find_in has_room roomy when_stored insert_answer insert_store
    put_in f i q =
        let es : List Entry = entries_of l in
        let n : ℕ = blocks_in l in
        let r = in-gap 0 i e es (sym q) in
        let off : r.off ≡ i = let z = r.place in omega arith in
        let same : insert_at i e es ≡ put_entry e es = ap (λ (d : ℕ). insert_at d e es) (sym off) ∙ sym r.put in
        let a : put_answer l e ≡ cond (ltb (length es) n) (Ok tt) (Err Full) = stored_answer _ f (ap (λ (o : Result ℕ ℕ). cond (roomy o (length es) n) (Ok tt) (Err Full)) (sym q)) in
        (sym a, ap (λ (xs : List Entry). cond (ltb (length es) n) (bytes_of n xs) l) same ∙ picked (ltb (length es) n) ∙ sym (stored_bytes _ a))
      where
        picked : (b : Bool) → cond b (bytes_of (blocks_in l) (put_entry e (entries_of l))) l ≡ when_stored (cond b (Ok tt) (Err Full)) (bytes_of (blocks_in l) (put_entry e (entries_of l))) l
        picked true = refl
        picked false = refl

  -- ---- delete
  module _ (k : List ℕ) where
    own : Entry
    own = entry k [] [] [] 0

    pub delete-low : (i : ℕ) → Ok i ≡ find_in k (entries_of l) → i < length (entries_of l)
    unfolding own
    delete-low i q = at_low own i q

    pub taken : (i : ℕ) → Ok i ≡ find_in k (entries_of l) → (true ≡ delete_answer l k) × (bytes_of (blocks_in l) (remove_at i (entries_of l)) ≡ delete_store l k)
    unfolding find_in delete_answer delete_of delete_store own
    taken i q =
        let es : List Entry = entries_of l in
        let r = is_at 0 i own es (sym q) in
        let off : r.off ≡ i = let z = r.place in omega arith in
        (ap delete_of q, ap (bytes_of (blocks_in l)) (ap (λ (d : ℕ). remove_at d es) (sym off) ∙ sym r.removed))

    pub kept : (i : ℕ) → Err i ≡ find_in k (entries_of l) → (false ≡ delete_answer l k) × (l ≡ delete_store l k)
    unfolding find_in delete_answer delete_of delete_store own
    kept i q =
        let r = in-gap 0 i own (entries_of l) (sym q) in
        (ap delete_of q, g.same ∙ ap (bytes_of (blocks_in l)) (sym r.removed))
