-- How long the bytes of a tree are at most: five bytes for a tag, ten for a number or a length, four for a float.
use Rattle.std.specs.Prelude.{ℕ, ◌+◌, ◌≤◌, List, [], ◌∷◌, length}
use Rattle.fields_schema.specs.Tree.{Tree, done, int, raw, fix, sub}

abbrev pub cost : Tree → ℕ
cost done = 0
cost (int n v t) = 15 + cost t
cost (raw n b t) = 15 + length b + cost t
cost (fix n b t) = 9 + cost t
cost (sub n s t) = 15 + cost s + cost t

-- the bytes of a list of strings
abbrev pub total : List (List ℕ) → ℕ
total [] = 0
total (b ∷ bs) = length b + total bs

-- each is at most m bytes long
abbrev pub AtMost : ℕ → List (List ℕ) → Type 0
AtMost m [] = Unit {0}
AtMost m (b ∷ bs) = (length b ≤ m) × AtMost m bs

-- messages that each cost at most m
abbrev pub CostMost : ℕ → List Tree → Type 0
CostMost m [] = Unit {0}
CostMost m (s ∷ ss) = (cost s ≤ m) × CostMost m ss
