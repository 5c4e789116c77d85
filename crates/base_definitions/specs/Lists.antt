-- Tests of lists and numbers.
use Rattle.std.specs.Prelude.{Bool, true, false, cond, ◌&&◌, ◌||◌, List, [], ◌∷◌, ◌++◌, reverse, ℕ, ◌-◌, eqb, leb, length, replicate}
use Rattle.std.proofs.Math.Option.{Option, none, some}

unfoldable pub all : {A : Type 0} → (A → Bool) → List A → Bool
all f [] = true
all f (x ∷ xs) = f x && all f xs

unfoldable pub any : {A : Type 0} → (A → Bool) → List A → Bool
any f [] = false
any f (x ∷ xs) = f x || any f xs

unfoldable pub map_l : {A B : Type 0} → (A → B) → List A → List B
map_l f [] = []
map_l f (x ∷ xs) = f x ∷ map_l f xs

-- those that pass a test, in their order
unfoldable pub only : {A : Type 0} → (A → Bool) → List A → List A
only f [] = []
only f (x ∷ xs) = cond (f x) (x ∷ only f xs) (only f xs)

abbrev pub first : {A : Type 0} → List A → Option A
first [] = none
first (x ∷ xs) = some x

abbrev pub last : {A : Type 0} → List A → Option A
last xs = first (reverse xs)

-- a number from a to b
abbrev pub within : ℕ → ℕ → ℕ → Bool
within a b n = leb a n && leb n b

abbrev pub is_empty : List ℕ → Bool
is_empty [] = true
is_empty (x ∷ xs) = false

unfoldable pub same_bytes : List ℕ → List ℕ → Bool
same_bytes [] [] = true
same_bytes [] (y ∷ ys) = false
same_bytes (x ∷ xs) [] = false
same_bytes (x ∷ xs) (y ∷ ys) = eqb x y && same_bytes xs ys

-- xs and then zeros, n in all
unfoldable pub fill : ℕ → List ℕ → List ℕ
fill n xs = xs ++ replicate (n - length xs) 0
