-- Entries among some, and how many bytes of a report are 1.
use Rattle.std.specs.Prelude.{cond, ◌≡◌, ◌⊎◌, List, [], ◌∷◌, ℕ, ◌+◌, eqb}
use Rattle.store_block.specs.Entry.{Entry}
use Rattle.store_layout.specs.Store.{AllFit, Sorted}

-- an entry is one of some
abbrev pub In : Entry → List Entry → Type 0
In e [] = ⊥
In e (x ∷ xs) = (e ≡ x) ⊎ In e xs

-- ---- whether one of some entries has a key
pub record Keyed (k : List ℕ) (es : List Entry) : Type 0 where
  pub entry : Entry
  pub among : In entry es
  pub same : k ≡ entry.key

-- ---- all of them
pub record Keeping (es : List Entry) : Type 0 where
  pub fit : AllFit es
  pub sorted : Sorted es

-- how many bytes of a report are 1
unfoldable pub ones : List ℕ → ℕ
ones [] = 0
ones (b ∷ bs) = cond (eqb b 1) (1 + ones bs) (ones bs)
