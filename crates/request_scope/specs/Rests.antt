-- The walk over the messages of a repeated field: what is still to come.
use Rattle.std.specs.Prelude.{ℕ, List}
use Rattle.fields_schema.specs.Tree.{Tree}
use Rattle.fields_schema.specs.declared.Kind.{Kind}
use Rattle.fields_lookup.specs.Views.{Inside, bytes_at}
use Rattle.fields_repeated.specs.Values.{parts_in, WellFramed}
use Rattle.fields_repeated.specs.Repeated.{trees_of, AllRead}
use Rattle.base_definitions.specs.Lists.{map_l}
use Rattle.fields_lookup.specs.declared.parts.Part.{Part}

pub record Rest (k : Kind) (num : ℕ) (s : List ℕ) (left : Part) : Type 0 where
  pub inside : Inside s left
  pub framed : WellFramed (bytes_at s left)
  pub reads : AllRead k (parts_in num (bytes_at s left))

-- what is still to come
abbrev pub coming : {A : Type 0} → Kind → ℕ → (Tree → A) → List ℕ → Part → List A
coming k num f s left = map_l f (trees_of k (parts_in num (bytes_at s left)))
