use mathlib.Core.Path.{refl, sym, ap, ◌∙◌}
use Rattle.base_integers.specs.Signed.{signed_of, word_of}
use Rattle.base_integers.specs.SignedLaws.{word_kept}
use Rattle.access_record.specs.Table.{acl_of}
use Rattle.access_record.specs.Record.{table_of}
use Rattle.protocol.specs.State.{with_sequence, lent}
use Rattle.protocol.specs.Failure.{fault_of}
use Rattle.protocol.proofs.FailureLaws.{says-fault, fault-there}
use Rattle.judge_header.specs.Rest.{type_in}
use Rattle.fields_schema.specs.Tree.{guard}
use Rattle.request_parts.specs.Views.{header_view}
use Rattle.request_command.specs.Views.{body_view}
use Rattle.protocol_connection.specs.ConnectionOf.{connection_of}
use Rattle.device_command.proofs.Steps.{accepts, asked-as, bits, heard-by, refused}
use mir.Syntax.{w64}
use mir.Val.{SFits}
use borrow.Author.Rules.{rules}
use Rattle.device_command.proofs.answer_request.Goals as goal

pub status-requires : goal.status-requires
status-requires c = (c.requires.0, c.requires.1)

pub returns-in-Err : goal.returns-in-Err
returns-in-Err c =
    let s = lent c.args.store.now c.args.device.now c.args.readings.now (connection_of c.args.received.sender.connection) in
    let from = c.args.received.sender in
    let q = c.args.received.request in
    let g = c.heading_of-heading.result in
    let k = c.heading_of-heading.ensures in
    let identity : SFits w64 c.args.received.sender.identity = search rules in
    let number : SFits w64 c.args.received.sender.connection.number = search rules in
    let version : SFits w64 c.heading_of-heading.result.version = search rules in
    let u = says-fault c.in-Err.is c.number.ensures in
    refused k s (signed_of (word_of from.identity)) (signed_of (word_of from.connection.number)) c.unwrap_or-number.result (word_of from.identity)
    (word_kept from.identity identity.sfits) (word_kept from.connection.number number.sfits) (ap word_of c.unwrap_or-number.ensures) c.reply_type.result c.reply_type.ensures c.args.signing_key.now (body_view c.args.command.now q.body) (acl_of (table_of c.args.device.now) from.acl) c.args.value.now c.number.result _ _ _
    (u ∙ c.header_fault.ensures s (guard q.headed (header_view q.header)) (heard-by k s _ (word_kept g.version version.sfits))) (λ z. fault-there c.in-Err.is (sym u ∙ z)) (c.status.ensures s)

pub admit_and_perform-requires : goal.admit_and_perform-requires
admit_and_perform-requires c =
    (c.requires.0, c.requires.1, c.requires.2, c.requires.3, c.requires.4, c.requires.5, bits c.heading_of-heading.ensures (lent c.args.store.now c.args.device.now c.args.readings.now (connection_of c.args.received.sender.connection)))

pub returns-in-Ok : goal.returns-in-Ok
returns-in-Ok c =
    let s = lent c.args.store.now c.args.device.now c.args.readings.now (connection_of c.args.received.sender.connection) in
    let from = c.args.received.sender in
    let q = c.args.received.request in
    let g = c.heading_of-heading.result in
    let k = c.heading_of-heading.ensures in
    let identity : SFits w64 c.args.received.sender.identity = search rules in
    let number : SFits w64 c.args.received.sender.connection.number = search rules in
    let sequence : SFits w64 c.unwrap_or-number.result = search rules in
    let version : SFits w64 c.heading_of-heading.result.version = search rules in
    let e = guard q.headed (header_view q.header) in
    accepts k s (signed_of (word_of from.identity)) (signed_of (word_of from.connection.number)) (signed_of (word_of c.unwrap_or-number.result)) (word_of from.identity)
    (word_kept from.identity identity.sfits) (word_kept from.connection.number number.sfits) (word_kept c.unwrap_or-number.result sequence.sfits ∙ ap word_of c.unwrap_or-number.ensures) c.reply_type.result c.reply_type.ensures c.args.signing_key.now (body_view c.args.command.now q.body) (acl_of (table_of c.args.device.now) from.acl) c.args.value.now (fault_of c.header_fault.result) _ _ _
    (c.header_fault.ensures s e (heard-by k s _ (word_kept g.version version.sfits))) _ _ (connection_of c.accept.result) (ap fault_of c.in-Ok.is) c.accept.ensures
    (c.admit_and_perform.ensures (with_sequence (connection_of from.connection) (word_of (signed_of (word_of c.unwrap_or-number.result)))) (type_in e) refl (asked-as k s))
