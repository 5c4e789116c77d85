-- What the answers about scopes and an ACL mean.
use Rattle.std.specs.Prelude.{ℕ, ◌≡◌, List, Bool, true, ◌&&◌, length}
use Rattle.base_definitions.specs.Options.{or_else}
use Rattle.base_definitions.specs.Lists.{all, within, map_l}
use Rattle.access_record.specs.Table.{acl_good}
use Rattle.access_table_write.specs.Write.{put_acl, put_scopes}
use Rattle.protocol.specs.Command.{Scope, Acl}
use Rattle.protocol.specs.Judge.{acl_read, wanted_scope, wanted_acl}
use Rattle.request_scope.specs.Scope.{scope_taken}

-- the answer is the judgement, and where it is true the bytes are there
pub record Makes (good r : Bool) (out bytes : List ℕ) : Type 0 where
  pub answer : r ≡ good
  pub made : r ≡ true → out ≡ bytes

-- between one and so many, each of which keeps its rules
abbrev pub few_taken : {A : Type 0} → ℕ → (A → Bool) → List A → Bool
few_taken most f xs = within 1 most (length xs) && all f xs

-- "1 to 4 scopes"
unfoldable pub scopes_taken : List Scope → Bool
scopes_taken cs = few_taken 4 scope_taken cs

-- the ACL rules of one ACL: its identity present, and those of the table
unfoldable pub acl_taken : Acl → Bool
acl_taken a = acl_read a && acl_good (wanted_acl a)

-- one ACL with its scopes, as the record holds them
unfoldable pub put_one : List ℕ → ℕ → Acl → List ℕ
put_one l i a = put_scopes (put_acl l i (or_else 0 a.identity) a.key) i 0 (map_l wanted_scope a.scopes)
