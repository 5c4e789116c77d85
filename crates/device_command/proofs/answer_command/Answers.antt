use Rattle.base_integers.specs.Signed.{word_of}
use Rattle.base_integers.specs.SignedLaws.{word_kept}
use Rattle.protocol.specs.Reading as reading
use Rattle.access_record.proofs.LookupLaws.{found-placed}
use Rattle.protocol.specs.State.{lent}
use Rattle.protocol_connection.specs.ConnectionOf.{connection_of}
use Rattle.device_command.specs.Commands.{command_in}
use Rattle.device_command.proofs.Steps.{decodes, undecoded}
use mir.Syntax.{w64}
use mir.Val.{SFits}
use borrow.Author.Rules.{rules}
use Rattle.device_command.proofs.answer_command.Goals as goal

pub answer_request-requires : goal.answer_request-requires
answer_request-requires c =
    (c.requires.0, c.requires.1, c.requires.2, found-placed c.args.device.now (word_of c.args.sender.identity) c.args.sender.acl c.requires.3 c.requires.4, c.read_request-request.ensures.1, c.requires.5)

pub returns-then-ok : goal.returns-then-ok
returns-then-ok c =
    let r = c.read_request-request.result in
    let s = lent c.args.store.now c.args.device.now c.args.readings.now (connection_of c.args.sender.connection) in
    decodes s (word_of c.args.sender.identity) c.args.signing_key.now c.args.value.now (reading.decodes c.args.command.now) (command_in c.args.command.now r) r.ok c.read_request-request.ensures.0 _ _ _
    c.if-ok.true c.args.sender.acl c.requires.4 _ c.answer_request.ensures

pub status-requires : goal.status-requires
status-requires c = (c.requires.0, c.requires.1)

pub returns : goal.returns
returns c =
    let r = c.read_request-request.result in
    let s = lent c.args.store.now c.args.device.now c.args.readings.now (connection_of c.args.sender.connection) in
    let from = c.args.sender in
    let identity : SFits w64 c.args.sender.identity = search rules in
    let number : SFits w64 c.args.sender.connection.number = search rules in
    undecoded s (word_of c.args.sender.identity) c.args.signing_key.now c.args.value.now (reading.decodes c.args.command.now) (command_in c.args.command.now r) r.ok c.read_request-request.ensures.0 _ _ _
    c.if-ok.false (word_kept from.identity identity.sfits) (word_kept from.connection.number number.sfits) (c.status.ensures s)
