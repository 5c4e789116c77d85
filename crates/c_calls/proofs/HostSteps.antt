-- The ways through each call.
use mathlib.Core.Path.{◌≡◌, subst}
use mathlib.Core.List.{List}
use Prim.Native.Nat.{ℕ}
use Rattle.protocol.specs.Format.{Told}
use Rattle.std.specs.Prelude.{Result}
use Rattle.device_format.specs.declared.FormatError.{FormatError}
use Rattle.device_format.specs.FormatNumber.{format_number}

-- ---- format
pub formatted : {store device key store' device' : List ℕ} {r : Result (Unit {0}) FormatError} (x : Result (Unit {0}) FormatError) → r ≡ x
    → Told (format_number r) store device key store' device' → Told (format_number x) store device key store' device'
formatted {store} {device} {key} {store'} {device'} x e t = subst (λ (y : Result (Unit {0}) FormatError). Told (format_number y) store device key store' device') e t
