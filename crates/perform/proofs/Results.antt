-- The reply of SECURITY, by the result that it says.
use mathlib.Core.Path.{◌≡◌, sym, ap, ◌∙◌}
use mathlib.Core.Bool.{Bool, true}
use mathlib.Core.List.{List, []}
use Prim.Native.Nat.{ℕ}
use Rattle.access_record.specs.Record.{table_bytes, table_of}
use Rattle.protocol.specs.State.{State, with_device}
use Rattle.protocol.specs.Command.{Acl}
use Rattle.protocol.specs.Judge.{bare, secure, security_good, succeeds, wanted}
use Rattle.request_acl.specs.Taken.{Makes}

pub secured : (acls : List Acl) {r : Bool} {v : ℕ} {d d' : List ℕ} → Makes (security_good acls) r d' (table_bytes (wanted v acls)) → security_good acls ≡ true
    → v ≡ (table_of d).cluster_version → (t : State) → t.device ≡ d → succeeds (with_device t d') bare [] ≡ secure t acls
secured acls m g e t q =
    ap (λ (d : List ℕ). succeeds (with_device t d) bare [])
    (m.made (m.answer ∙ g) ∙ ap (λ (v : ℕ). table_bytes (wanted v acls)) (e ∙ ap (λ (d : List ℕ). (table_of d).cluster_version) (sym q)))
