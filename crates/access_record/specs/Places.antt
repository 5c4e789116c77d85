-- What the proofs of the walks over the record's bytes go by: the ACL at a place, and the rule of those past it.
use Rattle.std.specs.Prelude.{◌≡◌, Bool, true, ◌&&◌, List, ℕ, ◌+◌, ◌-◌, ◌≤◌, get_or}
use Rattle.base_definitions.specs.Lists.{all}
use Rattle.access_record.specs.Table.{scope_good, find_from, is_nobody, acls_good}
use Rattle.access_record.specs.Record.{word_at, scopes_at, acls_at}

-- the rest of the rule of the ACLs, past the rule of the first
abbrev pub others : List ℕ → ℕ → ℕ → Bool
others l a n =
    is_nobody (find_from 0 (word_at l a) (acls_at l (a + 368) (n - 1))) && acls_good (acls_at l (a + 368) (n - 1))

-- the ACL at a place of a good record
pub record AclPlace (l : List ℕ) (a : ℕ) : Type 0 where
  pub key_fits : get_or l (a + 8) 0 ≤ 64
  pub scopes_few : get_or l (a + 9) 0 ≤ 4
  pub scopes_good : all scope_good (scopes_at l (a + 80) (get_or l (a + 9) 0)) ≡ true
