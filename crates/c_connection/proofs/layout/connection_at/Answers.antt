use Prim.Native.Nat.{ℕ}
use mathlib.Core.Path.{◌≡◌, ◌∙◌}
use mathlib.Core.List.{List}
use Rattle.base_integers.specs.SignedLaws.{word_kept}
use Rattle.fields_schema.specs.Tree.{guard}
use Rattle.access_record.specs.Record.{word_at}
use Rattle.c_connection.specs.Layout.{yes, connection_at}
use Rattle.c_connection.proofs.layout.connection_at.Goals as goal

held : (l : List ℕ) {n q : ℕ} → n ≡ word_at l 0 → q ≡ word_at l 16
    → record { number = n; protected = yes l 8; closed = yes l 9; last = guard (yes l 10) q } ≡ connection_at l
held l e f = λ i. record { number = e i; protected = yes l 8; closed = yes l 9; last = guard (yes l 10) (f i) }

pub returns : goal.returns
returns c =
    let l = c.args.bytes.now in
    let n = c.signed_at in
    let q = c.signed_at-2 in
    held l (word_kept n.result n.type_inv ∙ n.ensures) (word_kept q.result q.type_inv ∙ q.ensures)
