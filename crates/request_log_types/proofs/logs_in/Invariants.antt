use Rattle.fields_schema.specs.Tree.{Tree, sub_at, tree_in}
use Rattle.fields_schema.specs.declared.Kind.TheVariants as k
use Rattle.fields_lookup.specs.Views.{bytes_at, tree_of, After}
use Rattle.fields_repeated.specs.Joins.{Joins}
use Rattle.request_log_types.specs.Types.{LogTypes}
use Rattle.request_log_types.proofs.logs_in.Given as goal

abbrev pub invariant-loop-part : goal.invariant-loop-part
invariant-loop-part l = Joins (λ (t : Tree). After LogTypes l.initial.mask l.mask t) k.GetLog 6 l.s l.left (tree_in (sub_at 6 (tree_of k.Body (bytes_at l.s l.initial.left))))

abbrev pub decreases-loop-part : goal.decreases-loop-part
decreases-loop-part l = l.left.len
