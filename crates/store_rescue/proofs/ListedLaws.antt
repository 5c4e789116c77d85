-- The kept blocks of those looked at so far, by an order table, and what becomes of the next one.
use Rattle.std.specs.Prelude.{◌≡◌, true, get_or, Ok, Err}
use Rattle.std.proofs.Math.Path.{sym, ap, ap₂, subst}
use Rattle.std.proofs.Common.{◌∙◌, not-suc-le-zero, le_of_suc-le-suc, take-append-drop}
use Rattle.std.proofs.Math.Bool.{Bool, false, cond}
use mathlib.Core.List.{List, [], ◌∷◌, ◌++◌, append_assoc}
use Prim.Native.Nat.{ℕ, zero, suc, ◌+◌, ◌-◌, ◌*◌, ◌≤◌, ◌<◌}
use native.Mathlib.Omega.{arith}
use Rattle.std.proofs.Math.Dec.{eqb}
use Rattle.std.proofs.Math.ListN.{length, take, drop, length-append, length-take, length-drop}
use Rattle.std.proofs.Math.Seq.{take_at, drop_at, take-add, length-take-le}
use borrow.Author.Tests.{ne_eqb}
use Rattle.store_block.specs.Entry.{Entry, entry}
use Rattle.store_block.specs.Block.{decode, BlockGood}
use Rattle.store_block.specs.BlockLaws.{sized, decode-block}
use Rattle.store_block.specs.Over.{over}
use Rattle.store_block.specs.OverLaws.{length_over}
use Rattle.store_layout.specs.Store.{Sorted}
use Rattle.store_layout.specs.Entries.{find_in, find_from, put_entry}
use Rattle.store_layout.specs.Splices.{insert_at}
use Rattle.store_layout.proofs.EntriesLaws.{in-gap, put-sorted}
use Rattle.store_order_table.specs.Table.{block_at, entries_at, Names}
use Rattle.store_order_table.specs.TableLaws.{length-entries, entries-append}
use Rattle.store_rescue.specs.declared.state.BlockState.{BlockState}
use Rattle.store_rescue.specs.State.{state_of}
use Rattle.store_rescue.proofs.StateLaws.{good-sound}
use Rattle.store_rescue.specs.Rescue.{has_key, report, report_byte, kept_with}
use Rattle.store_rescue.proofs.KeysLaws.{has-at, has-gap}
use Rattle.store_rescue.specs.Listed.{Each, Kept, Listed, Next, Judged}

module _ (P : ℕ → Type 0) where
  each-join : (ks ms : List ℕ) → Each P ks → Each P ms → Each P (ks ++ ms)
  each-join [] ms a b = b
  each-join (k ∷ ks) ms a b = (a.0, each-join ks ms a.1 b)

  each-front : (ks ms : List ℕ) → Each P (ks ++ ms) → Each P ks
  each-front [] ms a = tt
  each-front (k ∷ ks) ms a = (a.0, each-front ks ms a.1)

  each_back : (ks ms : List ℕ) → Each P (ks ++ ms) → Each P ms
  each_back [] ms a = a
  each_back (k ∷ ks) ms a = each_back ks ms a.1

pub each_at : (P : ℕ → Type 0) (ks : List ℕ) (m : ℕ) → Each P ks → m < length ks → P (get_or ks m 0)
each_at P [] m a h = absurd (not-suc-le-zero h)
each_at P (k ∷ ks) zero a h = a.0
each_at P (k ∷ ks) (suc m) a h = each_at P ks m a.1 (le_of_suc-le-suc h)

each-so : {P Q : ℕ → Type 0} → ((k : ℕ) → P k → Q k) → (ks : List ℕ) → Each P ks → Each Q ks
each-so f [] a = tt
each-so f (k ∷ ks) a = (f k a.0, each-so f ks a.1)

-- what a sound block says, also with what follows it
pub decode-at : (l : List ℕ) (k : ℕ) → BlockGood (block_at l k) → decode (drop (k * 512) l) ≡ decode (block_at l k)
unfolding block_at
decode-at l k g =
    let d : List ℕ = drop (k * 512) l in
    ap decode (sym (take-append-drop 512 d) ∙ ap (λ (x : List ℕ). x ++ drop 512 d) (sym g.same))
    ∙ decode-block (decode (take 512 d)) (drop 512 d) (sized g.fit)

module _ (l : List ℕ) (i kept : ℕ) (o : List ℕ) (a : Listed l i kept o) where
  later : (k : ℕ) → Kept l i k → Kept l (i + 1) k
  later k w = let h = w.low in record { low = omega arith; good = w.good }

  pub in-store : Next l i → Names l (take kept o)
  in-store n = record { each = λ m h. let w = (each_at (Kept l i) (take kept o) m a.each h).low in let b = n.inside in omega arith }

  -- where a key goes
  pub gap-low : (k : List ℕ) (p : ℕ) → Err p ≡ find_in k (entries_at l (take kept o)) → p ≤ kept
  unfolding find_in
  gap-low k p f =
      let r = in-gap 0 p (entry k [] [] [] 0) (entries_at l (take kept o)) (sym f) in
      let w = r.within in
      let z = r.place in
      let n = length-entries l (take kept o) ∙ length-take kept o in
      omega arith

  -- a block that is not kept
  pub left_out : (n : ℕ) → report_byte (entries_at l (take kept o)) (block_at l i) ≡ n → (n ≡ 1 → ⊥) → Judged l i kept o n kept o
  unfolding kept_with
  left_out n e h =
      let f = a.few in
      record {
        told = sym e;
        entries = sym (ap (λ (x : Bool). cond x (put_entry (decode (block_at l i)) (entries_at l (take kept o))) (entries_at l (take kept o))) (ap (λ (m : ℕ). eqb m 1) e ∙ ne_eqb n 1 h));
        listed = record { room = a.room; few = omega arith; each = each-so later (take kept o) a.each; sorted = a.sorted };
      }

  -- one that is not sound
  pub unsound : (s : BlockState) (n : ℕ) → state_of (block_at l i) ≡ s → ((x : Bool) → report x s ≡ n) → (n ≡ 1 → ⊥) → Judged l i kept o n kept o
  unfolding report_byte
  unsound s n e f h =
      let x : Bool = has_key (decode (block_at l i)).key (entries_at l (take kept o)) in
      left_out n (ap (report x) e ∙ f x) h

  -- not blank, nor wrong, nor broken: by the key alone
  sound-byte : (b : List ℕ) (es : List Entry) (x : Bool) → BlockGood b → has_key (decode b).key es ≡ x → report_byte es b ≡ cond x 4 1
  unfolding report_byte report
  sound-byte b es x g h = ap₂ (λ (y : Bool) (s : BlockState). report y s) h (good-sound b g)

  module _ (g : BlockGood (block_at l i)) (k : List ℕ) (q : k ≡ (decode (block_at l i)).key) (p : ℕ) where
    byte-by : (x : Bool) → has_key k (entries_at l (take kept o)) ≡ x → report_byte (entries_at l (take kept o)) (block_at l i) ≡ cond x 4 1
    byte-by x h = sound-byte (block_at l i) (entries_at l (take kept o)) x g (ap (λ (z : List ℕ). has_key z (entries_at l (take kept o))) (sym q) ∙ h)

    -- its key is among those kept
    pub key_twice : Ok p ≡ find_in k (entries_at l (take kept o)) → Judged l i kept o 4 kept o
    key_twice f = left_out 4 (byte-by true (has-at k (entries_at l (take kept o)) a.sorted p f)) (λ e. omega arith)

    -- it is not: the block is kept
    pub key-new : Next l i → Err p ≡ find_in k (entries_at l (take kept o)) → Judged l i kept o 1 (kept + 1) (over o p (i ∷ take (kept - p) (drop p o)))
    unfolding kept_with entries_at find_in over
    key-new n f =
        let xs : List ℕ = take p o in
        let ys : List ℕ = take (kept - p) (drop p o) in
        let es : List Entry = entries_at l (take kept o) in
        let e : Entry = decode (block_at l i) in
        let byte : report_byte es (block_at l i) ≡ 1 = byte-by false (has-gap k es a.sorted p f) in
        let r = in-gap 0 p e es (ap (λ (z : List ℕ). find_from 0 z es) (sym q) ∙ sym f) in
        let off : r.off ≡ p = let z = r.place in omega arith in
        let le = length-entries l (take kept o) in
        let room = a.room in
        let few = a.few in
        let small = n.small in
        let lk = length-take-le kept o (omega arith) in
        let low = gap-low k p f in
        let lx = length-take-le p o (omega arith) in
        let ly : length ys ≡ kept - p = length-take-le (kept - p) (drop p o) (let d = length-drop p o in omega arith) in
        let cut : take kept o ≡ xs ++ ys = ap (λ (m : ℕ). take m o) (let z : kept ≡ p + (kept - p) = omega arith in z) ∙ take-add p (kept - p) o in
        let both : es ≡ entries_at l xs ++ entries_at l ys = ap (entries_at l) cut ∙ entries-append l xs ys in
        let front : length (entries_at l xs) ≡ p = length-entries l xs ∙ lx in
        let new : take (kept + 1) (take p o ++ ((i ∷ ys) ++ drop (p + suc (length ys)) o)) ≡ xs ++ (i ∷ ys) =
        ap (take (kept + 1)) (sym (append_assoc xs (i ∷ ys) (drop (p + suc (length ys)) o)))
        ∙ take_at (xs ++ (i ∷ ys)) (drop (p + suc (length ys)) o) (kept + 1) (simp length-append (omega arith)) in
        let put : entries_at l (xs ++ (i ∷ ys)) ≡ put_entry e es =
        entries-append l xs (i ∷ ys) ∙ ap (λ (x : Entry). entries_at l xs ++ (x ∷ entries_at l ys)) (decode-at l i g)
        ∙ sym (r.put ∙ ap (λ (d : ℕ). insert_at d e es) off
        ∙ ap₂ (λ (u v : List Entry). u ++ (e ∷ v)) (ap (take p) both ∙ take_at (entries_at l xs) (entries_at l ys) p front) (ap (drop p) both ∙ drop_at (entries_at l xs) (entries_at l ys) p front)) in
        let entries = ap (entries_at l) new ∙ put in
        let olds : Each (Kept l (i + 1)) (xs ++ ys) = each-so later (xs ++ ys) (subst (λ (ks : List ℕ). Each (Kept l i) ks) cut a.each) in
        record {
          told = sym byte;
          entries = entries ∙ sym (ap (λ (m : ℕ). cond (eqb m 1) (put_entry e es) es) byte);
          listed = record {
            room = length_over o p (i ∷ ys) (omega arith) ∙ room;
            few = omega arith;
            each = subst (λ (ks : List ℕ). Each (Kept l (i + 1)) ks) (sym new)
                (each-join (Kept l (i + 1)) xs (i ∷ ys) (each-front (Kept l (i + 1)) xs ys olds) (record { low = omega arith; good = g }, each_back (Kept l (i + 1)) xs ys olds));
            sorted = subst (λ (x : List Entry). Sorted x) (sym entries) (put-sorted e es a.sorted);
          };
        }
