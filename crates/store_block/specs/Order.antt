-- The order of keys, document 01, "Blocks": "every used block's key strictly below the next in byte order, a prefix before the longer key".
use Rattle.std.specs.Prelude.{◌≡◌, cond, List, [], ◌∷◌, ℕ, ltb}
use Rattle.std.specs.declared.cmp.Ordering.{Ordering}
use Rattle.std.specs.declared.cmp.Ordering.TheVariants.{Less, Equal, Greater}

-- how a key stands to another: by the first byte that differs, else by length
unfoldable pub cmp : List ℕ → List ℕ → Ordering
cmp [] [] = Equal
cmp [] (y ∷ ys) = Less
cmp (x ∷ xs) [] = Greater
cmp (x ∷ xs) (y ∷ ys) = cond (ltb x y) Less (cond (ltb y x) Greater (cmp xs ys))

-- strictly below
abbrev pub Below : List ℕ → List ℕ → Type 0
Below xs ys = cmp xs ys ≡ Less
