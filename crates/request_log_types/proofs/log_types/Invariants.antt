use mathlib.Core.List.{List}
use Prim.Native.Nat.{ℕ}
use Rattle.fields_schema.specs.Tree.{Tree, sub_at, tree_in}
use Rattle.fields_schema.specs.declared.Kind.TheVariants as k
use Rattle.fields_lookup.specs.Views.{tree_of}
use Rattle.fields_repeated.specs.Joins.{Joins}
use Rattle.request_log_types.specs.Types.{BodyTypes}
use Rattle.request_log_types.proofs.log_types.Given as goal

-- the bodies of a command
abbrev pub bodies : List ℕ → Tree
bodies s = tree_in (sub_at 2 (tree_of k.Command s))

abbrev pub invariant-loop-part : goal.invariant-loop-part
invariant-loop-part l = Joins (λ (t : Tree). BodyTypes t l.mask) k.Body 2 l.s l.left (bodies l.s)

abbrev pub decreases-loop-part : goal.decreases-loop-part
decreases-loop-part l = l.left.len
