use mathlib.Core.Path.{refl, sym, ap, ◌∙◌}
use Rattle.access_record.specs.Table.{acl_of}
use Rattle.access_record.specs.Record.{table_of}
use Rattle.protocol.specs.Failure.{fault_of}
use Rattle.protocol.specs.State.{lent}
use Rattle.protocol.proofs.FailureLaws.{says-fault, fault-there}
use Rattle.request_command.specs.Views.{body_view}
use Rattle.judge_permission.specs.Numbered.{asked_numbered}
use Rattle.judge_admission.specs.AdmissionLaws.{admitted}
use Rattle.device_command.proofs.Steps.{not-admitted, done, built, not-built}
use Rattle.device_command.proofs.admit_and_perform.Goals as goal

pub admit-requires : goal.admit-requires
admit-requires c = (c.requires.3, c.requires.4, sym (ap asked_numbered c.in-Some.is) ∙ c.requires.6)

pub status-requires : goal.status-requires
status-requires c = (c.requires.0, c.requires.1)

pub returns-in-Err : goal.returns-in-Err
returns-in-Err c =
    let v = c.args.value.now in
    let a = c.args.accepted in
    λ k t e f. let s = lent c.args.store.now c.args.device.now c.args.readings.now k in
    built s (acl_of (table_of c.args.device.now) c.args.accepted.acl) (body_view c.args.command.now c.args.accepted.body) v a.reply_to c.args.signing_key.now _ _ _ a.asked t f c.in-Some.choice c.in-Some.is _
    (not-admitted s (acl_of (table_of c.args.device.now) c.args.accepted.acl) c.in-Some.choice (body_view c.args.command.now c.args.accepted.body) v a.reply_to c.args.signing_key.now _ _ _
    a.protected e c.number.result (says-fault c.in-Err.is c.number.ensures ∙ c.admit.ensures v refl)
    (λ z. fault-there c.in-Err.is (sym (says-fault c.in-Err.is c.number.ensures) ∙ z)) (c.status.ensures s))

pub perform-requires : goal.perform-requires
perform-requires c =
    let v = c.args.value.now in
    (c.requires.0, c.requires.1, c.requires.2, c.requires.4, admitted (acl_of (table_of c.args.device.now) c.args.accepted.acl) c.args.accepted.protected c.in-Some.choice (body_view c.args.command.now c.args.accepted.body) v (c.admit.ensures v refl) (ap fault_of c.in-Ok.is), c.requires.5, c.requires.3)

pub status-requires-in-None : goal.status-requires-in-None
status-requires-in-None c = (c.requires.0, c.requires.1)

pub returns-in-Ok : goal.returns-in-Ok
returns-in-Ok c =
    let v = c.args.value.now in
    let a = c.args.accepted in
    λ k t e f. let s = lent c.args.store.now c.args.device.now c.args.readings.now k in
    built s (acl_of (table_of c.args.device.now) c.args.accepted.acl) (body_view c.args.command.now c.args.accepted.body) v a.reply_to c.args.signing_key.now _ _ _ a.asked t f c.in-Some.choice c.in-Some.is _
    (done s (acl_of (table_of c.args.device.now) c.args.accepted.acl) c.in-Some.choice (body_view c.args.command.now c.args.accepted.body) v a.reply_to c.args.signing_key.now _ _ _
    a.protected e (fault_of c.admit.result) (c.admit.ensures v refl) (ap fault_of c.in-Ok.is) _ (c.perform.ensures k e))

pub returns-in-None : goal.returns-in-None
returns-in-None c =
    let a = c.args.accepted in
    λ k t p f. let s = lent c.args.store.now c.args.device.now c.args.readings.now k in
    not-built s (acl_of (table_of c.args.device.now) c.args.accepted.acl) (body_view c.args.command.now c.args.accepted.body) c.args.value.now a.reply_to c.args.signing_key.now _ _ _
    a.asked t f c.in-None.is (c.status-in-None.ensures s)
