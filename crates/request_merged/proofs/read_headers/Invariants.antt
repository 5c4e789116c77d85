use Rattle.fields_schema.specs.Tree.{Tree, sub_at, tree_in}
use Rattle.fields_schema.specs.declared.Kind.TheVariants as k
use Rattle.fields_lookup.specs.Views.{bytes_at, tree_of}
use Rattle.fields_repeated.specs.Joins.{Joins}
use Rattle.request_parts.specs.Views.{HeaderIs}
use Rattle.request_merged.proofs.read_headers.Given as goal

abbrev pub invariant-loop-part : goal.invariant-loop-part
invariant-loop-part l = Joins (λ (t : Tree). HeaderIs t l.h) k.Header 1 l.s l.left (tree_in (sub_at 1 (tree_of k.Command (bytes_at l.s l.initial.left))))

abbrev pub decreases-loop-part : goal.decreases-loop-part
decreases-loop-part l = l.left.len
