-- Laws of one turn of a loop.
use Rattle.std.specs.Prelude.{◌≡◌, List, ◌∷◌, ℕ, suc, ◌+◌, ◌-◌, ◌≤◌, ◌<◌, length, take, drop, set, get_or}
use Rattle.std.proofs.Common.{sym, ap, ap₂, ◌∙◌, arith, length-drop, length-take-le, get_or-drop, take-suc, drop-cons}
use Rattle.store_block.specs.Over.{over}
use Rattle.store_block.specs.OverLaws.{over-more, over-front, over-low, over-high}

-- a turn upwards, from the last byte on
pub up_more : (l m : List ℕ) (j e : ℕ) → 0 < j → j ≤ e → e + 512 ≤ length l → m ≡ over l (j + 512) (take (e - j) (drop j l))
    → set m (j - 1 + 512) (get_or m (j - 1) 0) ≡ over l (j - 1 + 512) (take (e - (j - 1)) (drop (j - 1) l))
up_more l m j e p h k q =
    let i : ℕ = j - 1 in
    let xs : List ℕ = take (e - j) (drop j l) in
    let at : j + 512 ≡ suc (i + 512) = omega arith in
    let sj : suc i ≡ j = omega arith in
    let one : e - i ≡ suc (e - j) = omega arith in
    let w : m ≡ over l (suc (i + 512)) xs = q ∙ ap (λ (a : ℕ). over l a xs) at in
    let read : get_or m i 0 ≡ get_or l i 0 = ap (λ (x : List ℕ). get_or x i 0) w ∙ over-low l (suc (i + 512)) i xs (omega arith) (omega arith) in
    let front : get_or l i 0 ∷ xs ≡ take (e - i) (drop i l) =
    sym (ap₂ take one (drop-cons l i 0 (omega arith) ∙ ap (λ (n : ℕ). get_or l i 0 ∷ drop n l) sj)) in
    ap₂ (λ (x : List ℕ) (v : ℕ). set x (i + 512) v) w read
    ∙ over-front l (i + 512) (get_or l i 0) xs (omega arith)
    ∙ ap (over l (i + 512)) front

-- a turn downwards, from the first byte on
pub down-more : (l m : List ℕ) (a j e : ℕ) → a ≤ j → j < e → e + 512 ≤ length l → m ≡ over l a (take (j - a) (drop (a + 512) l))
    → set m j (get_or m (j + 512) 0) ≡ over l a (take (j + 1 - a) (drop (a + 512) l))
down-more l m a j e h p k q =
    let d : List ℕ = drop (a + 512) l in
    let ld = length-drop (a + 512) l in
    let i : ℕ = j - a in
    let xs : List ℕ = take i d in
    let lx : length xs ≡ i = length-take-le i d (omega arith) in
    let at : j ≡ a + i = omega arith in
    let here : a + 512 + i ≡ j + 512 = omega arith in
    let one : j + 1 - a ≡ suc i = omega arith in
    let read : get_or m (j + 512) 0 ≡ get_or d i 0 =
    ap (λ (x : List ℕ). get_or x (j + 512) 0) q ∙ over-high l a (j + 512) xs (omega arith) (omega arith)
    ∙ sym (get_or-drop (a + 512) l i 0 ∙ ap (λ (n : ℕ). get_or l n 0) here) in
    (λ t. set (q t) (at t) (read t))
    ∙ over-more l a i (get_or d i 0) xs lx (omega arith)
    ∙ ap (over l a) (sym (take-suc d i 0 (omega arith)) ∙ ap (λ (n : ℕ). take n d) (sym one))
