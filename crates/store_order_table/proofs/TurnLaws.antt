-- Laws of one turn of a loop.
use Rattle.std.specs.Prelude.{◌≡◌, List, ◌∷◌, ℕ, suc, ◌+◌, ◌-◌, ◌≤◌, ◌<◌, length, take, drop, set, get_or}
use Rattle.std.proofs.Common.{sym, ap, ◌∙◌, arith, length-drop, length-take-le, get_or-take, get_or-drop, take_all}
use Rattle.store_block.specs.Over.{over}
use Rattle.store_block.specs.OverLaws.{over_none, over-high}
use Rattle.store_block.proofs.TurnLaws.{over-copy}
use Rattle.store_order_table.proofs.Turn.{moved, Moving}

module _ (o : List ℕ) (used p x : ℕ) (h : p ≤ used) (r : used < length o) where
  long : length (moved o used p x) ≡ used - p + 1
  long = let d = length-drop p o in let t = length-take-le (used - p) (drop p o) (omega arith) in omega arith

  pub moving-start : Moving o used p x p x o
  moving-start =
      let z : p - p ≡ 0 = omega arith in
      record {
        written = sym (ap (λ (c : ℕ). over o p (take c (moved o used p x))) z ∙ over_none o p);
        next = λ g. sym (ap (λ (c : ℕ). get_or (moved o used p x) c 0) z);
      }

  pub moving-more : (k held : ℕ) (now : List ℕ) → p ≤ k → k ≤ used → Moving o used p x k held now → Moving o used p x (k + 1) (get_or now k 0) (set now k held)
  moving-more k held now a b m =
      let src : List ℕ = moved o used p x in
      let l = long in
      let at : k ≡ p + (k - p) = omega arith in
      let one : k - p + 1 ≡ k + 1 - p = omega arith in
      let t = length-take-le (k - p) src (omega arith) in
      let read : get_or now k 0 ≡ get_or o k 0 = ap (λ (z : List ℕ). get_or z k 0) m.written ∙ over-high o p k (take (k - p) src) (omega arith) (omega arith) in
      let w = m.written in
      let n = m.next b in
      record {
        written = (λ i. set (w i) (at i) (n i)) ∙ over-copy o p (k - p) src (omega arith) (omega arith) ∙ ap (λ (c : ℕ). over o p (take c src)) one;
        next = λ g.
            let s : k + 1 - p ≡ suc (k - p) = omega arith in
            read ∙ sym (ap (λ (c : ℕ). get_or src c 0) s ∙ get_or-take (used - p) (drop p o) (k - p) 0 (omega arith) ∙ get_or-drop p o (k - p) 0 ∙ ap (λ (c : ℕ). get_or o c 0) (sym at));
      }

  pub moved_all : (k held : ℕ) (now : List ℕ) → k ≡ used + 1 → Moving o used p x k held now → now ≡ over o p (moved o used p x)
  moved_all k held now e m =
      let s : k - p ≡ suc (used - p) = omega arith in
      m.written ∙ ap (λ (c : ℕ). over o p (take c (moved o used p x))) s
      ∙ ap (λ (z : List ℕ). over o p (x ∷ z)) (take_all (used - p) (take (used - p) (drop p o)) (let q = long in omega arith))
