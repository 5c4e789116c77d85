use Prim.Native.Nat.{ℕ}
use mathlib.Core.Path.{◌∙◌, sym, ap}
use Rattle.base_integers.specs.SignedLaws.{word_kept}
use Rattle.access_record.specs.Table.{find_from}
use Rattle.access_record.specs.Record.{acls_at}
use Rattle.access_record.proofs.TableLaws.{find-first, find-yes, find-no, find-end}
use Rattle.access_identity.proofs.find_from.Goals as goal

pub loop-k-init : goal.loop-k-init
loop-k-init c = find-first _ _ _ _ _

pub returns-then-signed_at-identity : goal.returns-then-signed_at-identity
returns-then-signed_at-identity c =
    let a = c.args in
    let e = word_kept a.identity c.ranges.identity.sfits in
    sym (find-yes _ _ _ _ _ _ c.loop-k-test.true (sym c.signed_at.ensures ∙ c.if-signed_at-identity.true ∙ sym e))
    ∙ c.loop-k.invariant
    ∙ ap (λ (w : ℕ). find_from a.i w (acls_at a.device.now a.a a.n)) e

pub loop-k-preserved : goal.loop-k-preserved
loop-k-preserved c =
    let e = word_kept c.args.identity c.ranges.identity.sfits in
    sym (find-no _ _ _ _ _ _ c.loop-k-test.true (λ q. c.if-signed_at-identity.false (c.signed_at.ensures ∙ q ∙ e)))
    ∙ c.loop-k.invariant

pub returns : goal.returns
returns c =
    let a = c.args in
    sym (find-end _ _ _ _ _ _ c.loop-k-test.false)
    ∙ c.loop-k.invariant
    ∙ ap (λ (w : ℕ). find_from a.i w (acls_at a.device.now a.a a.n)) (word_kept a.identity c.ranges.identity.sfits)
