use Rattle.fields_schema.specs.declared.Kind.TheVariants as kind
use Rattle.protocol.specs.Command.{acl_of}
use Rattle.request_scope.specs.Stands.{acls_in}
use Rattle.request_acl.specs.Taken.{acl_taken, put_one}
use Rattle.request_acl.proofs.Rests.{Adding}
use Rattle.request_security.proofs.Tables.{put_all}
use Rattle.request_security.proofs.add_acls.Given as goal

abbrev pub invariant-loop-n : goal.invariant-loop-n
invariant-loop-n l = Adding kind.Acl 2 acl_of acl_taken 8 put_all put_one l.s (acls_in l.s l.initial.left) l.initial.device l.left l.device l.n
