-- The operations that document 02, CR 2 judges by the keys that they show.
use Rattle.std.specs.Prelude.{ℕ}
use Rattle.access_permission.specs.Permissions.{READ, RANGE}
use Rattle.protocol.specs.declared.Operation.{Operation}
use Rattle.protocol.specs.declared.Operation.TheVariants.{GetNext, GetPrevious, GetKeyRange}
use Rattle.protocol.specs.MessageType.{GETNEXT, GETPREVIOUS, GETKEYRANGE}

-- "these three": messageType, operation, and the permission that fits the keys
pub data Three : ℕ → Operation → ℕ → Type 0 where
  next : Three GETNEXT GetNext READ
  previous : Three GETPREVIOUS GetPrevious READ
  key_range : Three GETKEYRANGE GetKeyRange RANGE
