-- What the answer about the ACLs of a Security means.
use Rattle.std.specs.Prelude.{List, Bool}
use Rattle.protocol.specs.Command.{Acl}
use Rattle.request_acl.specs.Taken.{few_taken, acl_taken}

-- "1 to 8 ACLs"
unfoldable pub acls_taken : List Acl → Bool
acls_taken acls = few_taken 8 acl_taken acls
