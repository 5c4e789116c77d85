use Rattle.fields_schema.specs.declared.Kind.TheVariants as kind
use Rattle.protocol.specs.Command.{scope_of}
use Rattle.request_scope.specs.Stands.{acl_in}
use Rattle.request_scope.specs.Scope.{scope_taken}
use Rattle.request_acl.proofs.Rests.{Adding}
use Rattle.request_acl.proofs.Acls.{put_them, put_it}
use Rattle.request_acl.proofs.add_scopes.Given as goal

abbrev pub invariant-loop-n : goal.invariant-loop-n
invariant-loop-n l = Adding kind.Scope 4 scope_of scope_taken 4 (put_them l.place) (put_it l.place) l.s (acl_in l.s l.initial.left).scopes l.initial.device l.left l.device l.n
