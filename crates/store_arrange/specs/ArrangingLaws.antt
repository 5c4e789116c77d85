-- The blocks of a table brought to their places, one by one.
use Rattle.std.specs.Prelude.{◌≡◌, refl, List, [], ◌∷◌, ◌++◌, ℕ, zero, suc, ◌+◌, ◌-◌, ◌*◌, ◌≤◌, ◌<◌, length, take, drop, get_or, replicate}
use Rattle.std.proofs.Common.{sym, ap, ap₂, ◌∙◌, append_assoc, append-nil, arith, drop_of_length-le, length-take-le, get_or-take, take-add, take-suc}
use Rattle.std.proofs.Math.Decide.{dec_lt}
use Rattle.std.proofs.lemmas.List.{length-replicate}
use Rattle.store_block.specs.Over.{over}
use Rattle.store_order_table.specs.Table.{block_at, Names}
use Rattle.store_arrange.specs.Moves.{blocks_at, arranged, Distinct}
use Rattle.store_arrange.specs.Brought.{renamed, crossed, Brought}
use Rattle.store_arrange.specs.BroughtLaws.{renamed_by, crossed-by}
use Rattle.store_arrange.specs.Arranging.{Arranging}

module _ (l t : List ℕ) (used : ℕ) (u : used ≤ length t) where
  pub arranging-start : Names l (take used t) → Distinct (take used t) → Arranging l t used 0 l t
  arranging-start n d =
      let w = length-take-le used t u in
      record {
        long = refl;
        size = refl;
        done = λ k h. absurd (omega arith);
        rest = λ k h g. refl;
        from = λ k h g. omega arith;
        inside = λ k h g. let a = n.each k (omega arith) in let b = get_or-take used t k 0 g in omega arith;
        apart = λ i k h g v e. d.each i k g (omega arith) (get_or-take used t i 0 (omega arith) ∙ e ∙ sym (get_or-take used t k 0 v));
      }

  module _ (j : ℕ) (l' l'' o o' : List ℕ) (h : j < used) (a : Arranging l t used j l' o) (b : Brought j (get_or o j 0) l' l'' o o') where
    name : (k : ℕ) → k < used → get_or o' k 0 ≡ renamed j (get_or o j 0) (get_or o k 0)
    name k g = b.names.each k (let z = a.size in omega arith)

    -- the block of such a number is where the number now says
    moved : (k : ℕ) → j < k → k < used → crossed j (get_or o j 0) (renamed j (get_or o j 0) (get_or o k 0)) ≡ get_or o k 0
    moved k g w =
        let n = a.apart j k (omega arith) g w in
        renamed_by j (get_or o j 0) (get_or o k 0)
        (λ e r. crossed-by j (get_or o j 0) (renamed j (get_or o j 0) (get_or o k 0)) (λ p c. absurd (n (omega arith))) (λ m p c. omega arith) (λ m p c. absurd (p (sym r))))
        (λ e r. crossed-by j (get_or o j 0) (renamed j (get_or o j 0) (get_or o k 0)) (λ p c. absurd (e (omega arith))) (λ m p c. absurd (n (omega arith))) (λ m p c. omega arith))

    pub arranging-more : Arranging l t used (j + 1) l'' o'
    arranging-more =
        let ll = a.long in
        let bl = b.long in
        let in-j = a.inside j (omega arith) h in
        let from-j = a.from j (omega arith) h in
        record {
          long = bl ∙ ll;
          size = b.names.long ∙ a.size;
          done = λ k g. crossed-by j (get_or o j 0) k
              (λ e c. b.blocks k (omega arith) ∙ ap (block_at l') c ∙ a.rest j (omega arith) h ∙ ap (λ (n : ℕ). block_at l (get_or t n 0)) (sym e))
              (λ n e c. absurd (n (omega arith)))
              (λ n m c. b.blocks k (omega arith) ∙ ap (block_at l') c ∙ a.done k (differ k g n));
          rest = λ k g w.
              let q : get_or o' k 0 * 512 + 512 ≤ length l' = let i = in-side k g w in omega arith in
              b.blocks (get_or o' k 0) q ∙ ap (λ (n : ℕ). block_at l' (crossed j (get_or o j 0) n)) (name k w) ∙ ap (block_at l') (moved k (omega arith) w) ∙ a.rest k (omega arith) w;
          from = λ k g w.
              let n = a.apart j k (omega arith) (omega arith) w in
              let f = a.from k (omega arith) w in
              let e = name k w in
              renamed_by j (get_or o j 0) (get_or o k 0) (λ p r. later (get_or o j 0) (get_or o' k 0) from-j (λ z. n (omega arith)) (omega arith)) (λ p r. later (get_or o k 0) (get_or o' k 0) f p (omega arith));
          inside = in-side;
          apart = λ i k g w v e. a.apart i k (omega arith) w v (sym (moved i (omega arith) (omega arith)) ∙ ap (crossed j (get_or o j 0)) (sym (name i (omega arith)) ∙ e ∙ name k v) ∙ moved k (omega arith) v);
        }
      where
        differ : (k : ℕ) → k < j + 1 → (k ≡ j → ⊥) → k < j
        differ k g n = elim (dec_lt k j) [ yes p ↦ p | no p ↦ absurd (n (omega arith)) ]

        later : (x y : ℕ) → j ≤ x → (x ≡ j → ⊥) → y ≡ x → j + 1 ≤ y
        later x y f n e = elim (dec_lt j x) [ yes p ↦ omega arith | no p ↦ absurd (n (omega arith)) ]

        in-side : (k : ℕ) → j + 1 ≤ k → k < used → get_or o' k 0 * 512 + 512 ≤ length l
        in-side k g w =
            let e = name k w in
            let p = a.inside j (omega arith) h in
            let q = a.inside k (omega arith) w in
            renamed_by j (get_or o j 0) (get_or o k 0) (λ x r. omega arith) (λ x r. omega arith)

-- ---- all of them brought
blocks-append : (l ks ms : List ℕ) → blocks_at l (ks ++ ms) ≡ blocks_at l ks ++ blocks_at l ms
unfolding blocks_at
blocks-append l [] ms = refl
blocks-append l (k ∷ ks) ms = ap (λ (x : List ℕ). block_at l k ++ x) (blocks-append l ks ms) ∙ sym (append_assoc (block_at l k) (blocks_at l ks) (blocks_at l ms))

-- the first m blocks are those of the first m numbers
first-blocks : (l t l' : List ℕ) (m : ℕ) → m ≤ length t → ((k : ℕ) → k < m → block_at l' k ≡ block_at l (get_or t k 0)) → take (m * 512) l' ≡ blocks_at l (take m t)
unfolding blocks_at block_at
first-blocks l t l' zero h f = refl
first-blocks l t l' (suc m) h f =
    let n : suc m * 512 ≡ m * 512 + 512 = omega arith in
    ap (λ (k : ℕ). take k l') n ∙ take-add (m * 512) 512 l'
    ∙ ap₂ (λ (x y : List ℕ). x ++ y) (first-blocks l t l' m (omega arith) (λ k g. f k (omega arith))) (f m (omega arith) ∙ sym (append-nil (take 512 (drop (get_or t m 0 * 512) l))))
    ∙ sym (ap (blocks_at l) (take-suc t m 0 (omega arith)) ∙ blocks-append l (take m t) (get_or t m 0 ∷ []))

pub arranging-all : (l t : List ℕ) (used j : ℕ) (l' o : List ℕ) → used ≤ length t → used * 512 ≤ length l → j ≡ used → Arranging l t used j l' o
    → over l' (used * 512) (replicate (length l' - used * 512) 0) ≡ arranged l (take used t)
unfolding over arranged
arranging-all l t used j l' o u r e a =
    let n = a.long in
    let k = length-take-le used t u in
    let z = length-replicate {A = ℕ} (length l' - used * 512) 0 in
    let count : length l' - used * 512 ≡ length l - length (take used t) * 512 = omega arith in
    ap₂ (λ (x y : List ℕ). x ++ (replicate (length l' - used * 512) 0 ++ y)) (first-blocks l t l' used u (λ k g. a.done k (omega arith)))
    (drop_of_length-le l' {i = used * 512 + length (replicate {A = ℕ} (length l' - used * 512) 0)} (omega arith))
    ∙ ap (λ (x : List ℕ). blocks_at l (take used t) ++ x) (append-nil (replicate (length l' - used * 512) 0) ∙ ap (λ (m : ℕ). replicate m 0) count)
