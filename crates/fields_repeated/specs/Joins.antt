-- The messages of one number, one after another: what has been made of those passed, joined, and those to come.
use Rattle.std.specs.Prelude.{ℕ, ◌≡◌, List}
use Rattle.fields_schema.specs.Tree.{Tree}
use Rattle.fields_schema.specs.Merged.{join_all}
use Rattle.fields_schema.specs.declared.Kind.{Kind}
use Rattle.fields_lookup.specs.Views.{bytes_at, Inside}
use Rattle.fields_lookup.specs.declared.parts.Part.{Part}
use Rattle.fields_repeated.specs.Values.{parts_in, WellFramed}
use Rattle.fields_repeated.specs.Repeated.{trees_of, AllRead}

-- P says what has been made of the messages of number n, of kind k, before `left`; with those in it they join to `goal`
pub record Joins (P : Tree → Type 0) (k : Kind) (n : ℕ) (s : List ℕ) (left : Part) (goal : Tree) : Type 0 where
  pub inside : Inside s left
  pub framed : WellFramed (bytes_at s left)
  pub read : AllRead k (parts_in n (bytes_at s left))
  pub past : Tree
  pub says : P past
  pub same : join_all past (trees_of k (parts_in n (bytes_at s left))) ≡ goal
