-- What is said of each value of a repeated number.
use Rattle.std.specs.Prelude.{ℕ, ◌≡◌, List, [], ◌∷◌, true}
use Rattle.fields_schema.specs.Tree.{among}
use Rattle.fields_schema.specs.Tree.{Tree}
use Rattle.fields_schema.specs.declared.Kind.{Kind}
use Rattle.fields_lookup.specs.Views.{Reads, tree_of}

-- numbers that are each among some
abbrev pub AllAmong : List ℕ → List ℕ → Type 0
AllAmong names [] = Unit {0}
AllAmong names (v ∷ vs) = (among v names ≡ true) × AllAmong names vs

-- what each part says, as a message of a kind
abbrev pub trees_of : Kind → List (List ℕ) → List Tree
trees_of k [] = []
trees_of k (b ∷ bs) = tree_of k b ∷ trees_of k bs

abbrev pub AllRead : Kind → List (List ℕ) → Type 0
AllRead k [] = Unit {0}
AllRead k (b ∷ bs) = Reads k b × AllRead k bs
