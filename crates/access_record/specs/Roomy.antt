-- Tables that have room in a record, good or not.
use Rattle.std.specs.Prelude.{List, [], ◌∷◌, ◌≤◌, length}
use Rattle.access_record.specs.Table.{Scope, Acl, Table}

-- ---- scopes and ACLs that have room
pub data Roomy : List Scope → Type 0 where
  none : Roomy []
  more : {s : Scope} {ss : List Scope} → length s.value ≤ 64 → Roomy ss → Roomy (s ∷ ss)

pub record RoomyAcl (a : Acl) : Type 0 where
  pub key_fits : length a.key ≤ 64
  pub few : length a.scopes ≤ 4
  pub values : Roomy a.scopes

pub data RoomyAcls : List Acl → Type 0 where
  none : RoomyAcls []
  more : {a : Acl} {rest : List Acl} → RoomyAcl a → RoomyAcls rest → RoomyAcls (a ∷ rest)

-- a table that has room in the record
pub record RoomyTable (t : Table) : Type 0 where
  pub few : length t.acls ≤ 8
  pub places : RoomyAcls t.acls
