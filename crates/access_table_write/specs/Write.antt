-- A table written into a record ACL by ACL and scope by scope, each byte that is written.
use Rattle.std.specs.Prelude.{List, [], ◌∷◌, ℕ, ◌+◌, ◌*◌, set}
use Rattle.access_record.specs.Table.{Scope, Acl, Table}
use Rattle.access_record.specs.Record.{scope_bytes, acl_head}
use Rattle.access_record_bytes.specs.Wrote.{put}

-- the table with no ACL yet
abbrev pub empty_table : ℕ → Table
empty_table v = record { cluster_version = v; acls = [] }

-- ACL place i, with no scope yet: the number of ACLs, and bytes 0-79 of the place
unfoldable pub put_acl : List ℕ → ℕ → ℕ → List ℕ → List ℕ
put_acl l i w key = put (set l 8 (i + 1)) (16 + i * 368) (acl_head w key 0)

-- scope place j of ACL place i: the number of scopes, and the place
unfoldable pub put_scope : List ℕ → ℕ → ℕ → Scope → List ℕ
put_scope l i j s = put (set l (16 + i * 368 + 9) (j + 1)) (16 + i * 368 + 80 + j * 72) (scope_bytes s)

-- scopes from scope place j on
unfoldable pub put_scopes : List ℕ → ℕ → ℕ → List Scope → List ℕ
put_scopes l i j [] = l
put_scopes l i j (s ∷ ss) = put_scopes (put_scope l i j s) i (j + 1) ss

-- ACLs from ACL place i on
unfoldable pub put_acls : List ℕ → ℕ → List Acl → List ℕ
put_acls l i [] = l
put_acls l i (a ∷ rest) = put_acls (put_scopes (put_acl l i a.identity a.key) i 0 a.scopes) (i + 1) rest
