-- Laws of SETUP.
use Rattle.std.specs.Prelude.{◌≡◌, Bool, true, false, List, [], ℕ}
use Rattle.std.proofs.Common.{sym, ap, ◌∙◌}
use Rattle.fields_schema.specs.Tree.{guard}
use Rattle.access_record.specs.Record.{with_cluster_version}
use Rattle.protocol.specs.State.{with_device}
use Rattle.protocol.specs.Judge.{bare, succeeds, set_up}
use Rattle.operation_put.specs.SetUp.{Set}

pub set-none : (l : List ℕ) (given : Bool) (v : ℕ) → given ≡ false → Set l (guard given v) l
set-none l given v e =
    record { whole = λ s q. ap (λ (b : Bool). set_up s (guard b v)) e ∙ ap (λ (m : List ℕ). succeeds (with_device s m) bare []) q }

pub set-some : (l : List ℕ) (given : Bool) (v : ℕ) → given ≡ true → {m : List ℕ} → m ≡ with_cluster_version l v → Set l (guard given v) m
set-some l given v e y =
    record {
      whole = λ s q.
          ap (λ (b : Bool). set_up s (guard b v)) e ∙ ap (λ (m : List ℕ). succeeds (with_device s (with_cluster_version m v)) bare []) q
          ∙ ap (λ (m : List ℕ). succeeds (with_device s m) bare []) (sym y);
    }
