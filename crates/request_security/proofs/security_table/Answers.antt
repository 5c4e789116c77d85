use Prim.Native.Nat.{ℕ}
use mathlib.Core.Path.{◌∙◌, sym, ap}
use Rattle.base_integers.specs.Signed.{word_of}
use Rattle.base_integers.specs.SignedLaws.{word_kept}
use Rattle.access_record.specs.Record.{table_bytes}
use Rattle.access_table_write.specs.Write.{empty_table}
use Rattle.request_scope.specs.Stands.{acls_in}
use Rattle.request_security.proofs.Tables.{table-refused, table-made}
use Rattle.request_security.proofs.security_table.Goals as goal

pub add_acls-requires : goal.add_acls-requires
add_acls-requires c = c.requires

pub returns-then-not-add_acls : goal.returns-then-not-add_acls
returns-then-not-add_acls c =
    table-refused (acls_in c.args.s.now c.args.p) (sym c.add_acls.ensures.answer ∙ c.if-not-add_acls.true) _ _

pub returns : goal.returns
returns c =
    let a = c.add_acls in
    let t = c.clear_table in
    let y = c.if-not-add_acls.false in
    table-made (word_of c.args.version) (acls_in c.args.s.now c.args.p) (sym a.ensures.answer ∙ y) _ _ (t.ensures ∙ ap (λ (w : ℕ). table_bytes (empty_table w)) (word_kept c.args.version c.ranges.version.sfits)) (a.ensures.made y) c.record_good.result c.record_good.ensures
