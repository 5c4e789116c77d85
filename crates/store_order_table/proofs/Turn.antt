-- What a loop holds between two turns.
use Rattle.std.specs.Prelude.{◌≡◌, List, ◌∷◌, ℕ, ◌-◌, ◌≤◌, take, drop, get_or}
use Rattle.store_block.specs.Over.{over}

-- what is written from place p on
abbrev pub moved : List ℕ → ℕ → ℕ → ℕ → List ℕ
moved o used p x = x ∷ take (used - p) (drop p o)

-- before the turn k: the numbers before k are written, and held is the next one
pub record Moving (o : List ℕ) (used p x k held : ℕ) (now : List ℕ) : Type 0 where
  pub written : now ≡ over o p (take (k - p) (moved o used p x))
  pub next : k ≤ used → held ≡ get_or (moved o used p x) (k - p) 0
