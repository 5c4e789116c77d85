-- Permissions that a scope has a bit for.
use Rattle.std.specs.Prelude.{Bool, true, ltb, None, Some}
use Rattle.protocol.specs.Operation.{Asked}
use Rattle.protocol.specs.declared.Permission.{Permission}
use Rattle.protocol.specs.declared.Permission.TheVariants.{Free, Key, Any}

abbrev pub numbered : Permission → Bool
numbered Free = true
numbered (Key p) = ltb p 16
numbered (Any p) = ltb p 16

abbrev pub asked_numbered : Asked → Bool
asked_numbered (Some x) = numbered x.permission
asked_numbered None = true
