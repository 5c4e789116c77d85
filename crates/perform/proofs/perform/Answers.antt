use mathlib.Core.Path.{◌≡◌, refl, ap, subst}
use mathlib.Core.Logic.{inl, inr}
use mathlib.Core.List.{List, []}
use Prim.Native.Nat.{ℕ}
use Rattle.access_permission.specs.Permissions.{READ, RANGE}
use Rattle.access_record.specs.Table.{acl_of}
use Rattle.access_record.specs.Record.{table_of}
use Rattle.protocol.specs.declared.Operation.{Operation}
use Rattle.protocol.specs.State.{lent}
use Rattle.protocol.specs.Judge.{fault, keys_of, range, shown, succeeds}
use Rattle.store_layout.specs.Entries.{next_of, previous_of}
use Rattle.request_parts.specs.Views.{key_value_view, range_view}
use Rattle.request_command.specs.declared.Body.{Body}
use Rattle.request_command.specs.Views.{body_view}
use Rattle.reply_send.specs.SentLaws.{sent-as}
use Rattle.perform.proofs.Passes.{performed, put-good, range-short, table-good, log-there, visible-by}
use Rattle.perform.proofs.perform.Goals as goal

-- what step 8 found right of the operation that was chosen
passed : (command value : List ℕ) (body : Body) {p o : Operation} → p ≡ o → fault p (body_view command body) value ≡ 0 → fault o (body_view command body) value ≡ 0
passed command value body e f = subst (λ (o : Operation). fault o (body_view command body) value ≡ 0) e f

pub get_key_range-requires : goal.get_key_range-requires
get_key_range-requires c =
    (c.requires.0, c.requires.1, c.requires.2, c.requires.3.range, range-short c.args.command.now c.args.job.body c.args.value.now (passed c.args.command.now c.args.value.now c.args.job.body c.in-GetKeyRange.is c.requires.4), c.requires.6)

pub put-requires : goal.put-requires
put-requires c =
    let g = put-good c.args.command.now c.args.job.body c.args.value.now (passed c.args.command.now c.args.value.now c.args.job.body c.in-Put.is c.requires.4) in
    (c.requires.0, c.requires.1, c.requires.2, c.requires.3.entry, g.0, g.1)

pub get_log-requires : goal.get_log-requires
get_log-requires c =
    (c.requires.0, c.requires.1, c.requires.2, c.requires.5, c.requires.3.log (log-there c.args.command.now c.args.job.body c.args.value.now (passed c.args.command.now c.args.value.now c.args.job.body c.in-GetLog.is c.requires.4)))

pub secure-requires : goal.secure-requires
secure-requires c =
    (c.requires.0, c.requires.1, record { inside = c.requires.3.security.inside; reads = c.requires.3.reads }, table-good c.args.command.now c.args.job.body c.args.value.now (passed c.args.command.now c.args.value.now c.args.job.body c.in-Security.is c.requires.4))

pub returns-in-Noop : goal.returns-in-Noop
returns-in-Noop c = λ x _.
    let z = c.args in
    let s = lent z.store.now z.device.now z.readings.now x in
    let a = acl_of (table_of z.device.now) z.job.acl in
    elim c.in-Noop.is [
      | inl e ↦ performed z.command.now z.job.body z.value.now z.job.reply_to z.signing_key.now s a c.requires.4 e (c.status.ensures s)
      | inr e ↦ performed z.command.now z.job.body z.value.now z.job.reply_to z.signing_key.now s a c.requires.4 e (c.status.ensures s)
    ]

pub returns-in-Get : goal.returns-in-Get
returns-in-Get c =
    λ x _. performed c.args.command.now c.args.job.body c.args.value.now c.args.job.reply_to c.args.signing_key.now (lent c.args.store.now c.args.device.now c.args.readings.now x) (acl_of (table_of c.args.device.now) c.args.job.acl) c.requires.4 c.in-Get.is (c.get.ensures (lent c.args.store.now c.args.device.now c.args.readings.now x) refl)

pub returns-in-GetVersion : goal.returns-in-GetVersion
returns-in-GetVersion c =
    λ x _. performed c.args.command.now c.args.job.body c.args.value.now c.args.job.reply_to c.args.signing_key.now (lent c.args.store.now c.args.device.now c.args.readings.now x) (acl_of (table_of c.args.device.now) c.args.job.acl) c.requires.4 c.in-GetVersion.is (c.get_version.ensures (lent c.args.store.now c.args.device.now c.args.readings.now x) refl)

pub returns-in-GetNext : goal.returns-in-GetNext
returns-in-GetNext c =
    let kv = key_value_view c.args.command.now c.args.job.body.entry in
    λ x p. performed c.args.command.now c.args.job.body c.args.value.now c.args.job.reply_to c.args.signing_key.now (lent c.args.store.now c.args.device.now c.args.readings.now x) (acl_of (table_of c.args.device.now) c.args.job.acl) c.requires.4 c.in-GetNext.is
    (sent-as c.args.job.reply_to c.args.signing_key.now
    (ap (λ es. shown (lent c.args.store.now c.args.device.now c.args.readings.now x) kv.metadata_only (next_of kv.key es)) (visible-by (lent c.args.store.now c.args.device.now c.args.readings.now x) (acl_of (table_of c.args.device.now) c.args.job.acl) READ p)) (c.get-in-GetNext.ensures (lent c.args.store.now c.args.device.now c.args.readings.now x) refl))

pub returns-in-GetPrevious : goal.returns-in-GetPrevious
returns-in-GetPrevious c =
    let kv = key_value_view c.args.command.now c.args.job.body.entry in
    λ x p. performed c.args.command.now c.args.job.body c.args.value.now c.args.job.reply_to c.args.signing_key.now (lent c.args.store.now c.args.device.now c.args.readings.now x) (acl_of (table_of c.args.device.now) c.args.job.acl) c.requires.4 c.in-GetPrevious.is
    (sent-as c.args.job.reply_to c.args.signing_key.now
    (ap (λ es. shown (lent c.args.store.now c.args.device.now c.args.readings.now x) kv.metadata_only (previous_of kv.key es)) (visible-by (lent c.args.store.now c.args.device.now c.args.readings.now x) (acl_of (table_of c.args.device.now) c.args.job.acl) READ p)) (c.get-in-GetPrevious.ensures (lent c.args.store.now c.args.device.now c.args.readings.now x) refl))

pub returns-in-GetKeyRange : goal.returns-in-GetKeyRange
returns-in-GetKeyRange c =
    let asked = range_view c.args.command.now c.args.job.body.range in
    λ x p. performed c.args.command.now c.args.job.body c.args.value.now c.args.job.reply_to c.args.signing_key.now (lent c.args.store.now c.args.device.now c.args.readings.now x) (acl_of (table_of c.args.device.now) c.args.job.acl) c.requires.4 c.in-GetKeyRange.is
    (sent-as c.args.job.reply_to c.args.signing_key.now
    (ap (λ es. succeeds (lent c.args.store.now c.args.device.now c.args.readings.now x) (range (keys_of asked es)) []) (visible-by (lent c.args.store.now c.args.device.now c.args.readings.now x) (acl_of (table_of c.args.device.now) c.args.job.acl) RANGE p)) (c.get_key_range.ensures (lent c.args.store.now c.args.device.now c.args.readings.now x) refl))

pub returns-in-Put : goal.returns-in-Put
returns-in-Put c =
    λ x _. performed c.args.command.now c.args.job.body c.args.value.now c.args.job.reply_to c.args.signing_key.now (lent c.args.store.now c.args.device.now c.args.readings.now x) (acl_of (table_of c.args.device.now) c.args.job.acl) c.requires.4 c.in-Put.is (c.put.ensures (lent c.args.store.now c.args.device.now c.args.readings.now x) refl)

pub returns-in-Delete : goal.returns-in-Delete
returns-in-Delete c =
    λ x _. performed c.args.command.now c.args.job.body c.args.value.now c.args.job.reply_to c.args.signing_key.now (lent c.args.store.now c.args.device.now c.args.readings.now x) (acl_of (table_of c.args.device.now) c.args.job.acl) c.requires.4 c.in-Delete.is (c.delete.ensures (lent c.args.store.now c.args.device.now c.args.readings.now x) refl)

pub returns-in-Setup : goal.returns-in-Setup
returns-in-Setup c =
    λ x _. performed c.args.command.now c.args.job.body c.args.value.now c.args.job.reply_to c.args.signing_key.now (lent c.args.store.now c.args.device.now c.args.readings.now x) (acl_of (table_of c.args.device.now) c.args.job.acl) c.requires.4 c.in-Setup.is (c.setup.ensures (lent c.args.store.now c.args.device.now c.args.readings.now x) refl)

pub returns-in-GetLog : goal.returns-in-GetLog
returns-in-GetLog c =
    λ x _. performed c.args.command.now c.args.job.body c.args.value.now c.args.job.reply_to c.args.signing_key.now (lent c.args.store.now c.args.device.now c.args.readings.now x) (acl_of (table_of c.args.device.now) c.args.job.acl) c.requires.4 c.in-GetLog.is (c.get_log.ensures (lent c.args.store.now c.args.device.now c.args.readings.now x) refl refl)

pub returns-in-Security : goal.returns-in-Security
returns-in-Security c =
    λ x _. performed c.args.command.now c.args.job.body c.args.value.now c.args.job.reply_to c.args.signing_key.now (lent c.args.store.now c.args.device.now c.args.readings.now x) (acl_of (table_of c.args.device.now) c.args.job.acl) c.requires.4 c.in-Security.is (c.secure.ensures (lent c.args.store.now c.args.device.now c.args.readings.now x) refl)
