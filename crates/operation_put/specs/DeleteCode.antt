-- What the code's answers about DELETE mean, beside the definitions of `Judge`.
use Rattle.std.specs.Prelude.{◌≡◌, Bool, true, false, List, ℕ}
use Rattle.protocol.specs.StatusCode.{SUCCESS, NOT_FOUND, VERSION_MISMATCH}
use Rattle.protocol.specs.Command.{KeyValue}
use Rattle.operation_put.specs.declared.version.Version.{Version}
use Rattle.operation_put.specs.declared.version.Version.TheVariants.{Same, Other, Absent}

-- "missing key is NOT_FOUND (7), or SUCCESS with force; version as for PUT"
abbrev pub delete_code : Version → Bool → ℕ
delete_code v true = SUCCESS
delete_code Same false = SUCCESS
delete_code Other false = VERSION_MISMATCH
delete_code Absent false = NOT_FOUND

-- what a DELETE's keyValue says
pub record Deletes (k : KeyValue) (key old : List ℕ) (f : Bool) : Type 0 where
  pub is_key : k.key ≡ key
  pub is_old : k.db_version ≡ old
  pub is_force : k.force ≡ f
