-- Bytes moved within the store.
use Rattle.std.specs.Prelude.{◌≡◌, List, ◌++◌, ℕ, ◌+◌, ◌-◌, ◌≤◌, length, take, drop}
use Rattle.std.specs.List.{copy_within}
use Rattle.std.proofs.Common.{sym, ap, ◌∙◌, append_assoc, arith, length-drop, length-take-le}
use Rattle.store_block.specs.Over.{over}

-- the bytes from s up to e, written over those from index a on
pub moved : (l : List ℕ) (a s e : ℕ) → s ≤ e → e ≤ length l → copy_within l s e a ≡ over l a (take (e - s) (drop s l))
unfolding over
moved l a s e h k =
    let xs : List ℕ = take (e - s) (drop s l) in
    let n : length xs ≡ e - s = length-take-le (e - s) (drop s l) (let d = length-drop s l in omega arith) in
    append_assoc (take a l) xs (drop (a + (e - s)) l) ∙ ap (λ (m : ℕ). take a l ++ (xs ++ drop (a + m) l)) (sym n)
