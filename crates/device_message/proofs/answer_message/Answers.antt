use mathlib.Core.Path.{sym, ◌∙◌}
use native.Mathlib.Omega.{arith}
use lib.ListN.{length-take, length-drop}
use Rattle.base_integers.specs.SignedLaws.{word_kept}
use Rattle.protocol.specs.State.{lent}
use Rattle.protocol_connection.specs.ConnectionOf.{connection_of}
use Rattle.device_message.specs.MessageLaws.{sent-as, sealed, unsealed, unread, known, unknown}
use mir.Syntax.{w64}
use mir.Val.{SFits}
use borrow.Author.Rules.{rules}
use Rattle.device_message.proofs.answer_message.Goals as goal

pub returns-in_default : goal.returns-in_default
returns-in_default c =
    let a = c.args in
    let s = lent a.store.now a.device.now a.readings.now (connection_of a.connection) in
    sent-as (unread s a.value.now a.message.now (unsealed a.message.now c.in_default.ensures.0))
    (c.close.ensures a.store.now a.device.now a.readings.now)

pub verify_sender-requires : goal.verify_sender-requires
verify_sender-requires c =
    let l = c.requires.3 in
    (c.requires.0, c.requires.1, c.requires.2, sym c.find_identity.ensures ∙ c.in-Some-find_identity.is, simp (length-take, length-drop) (omega arith), c.requires.4)

pub returns-in-Some-find_identity : goal.returns-in-Some-find_identity
returns-in-Some-find_identity c =
    let a = c.args in
    let s = lent a.store.now a.device.now a.readings.now (connection_of a.connection) in
    let m = c.in-Some in
    let identity : SFits w64 c.in-Some.m.identity = search rules in
    sent-as (known s a.value.now a.message.now (sealed a.message.now m.m m.ensures.0 (word_kept m.m.identity identity.sfits)) (sym c.find_identity.ensures ∙ c.in-Some-find_identity.is))
    c.verify_sender.ensures

pub returns-in-None : goal.returns-in-None
returns-in-None c =
    let a = c.args in
    let s = lent a.store.now a.device.now a.readings.now (connection_of a.connection) in
    let m = c.in-Some in
    let identity : SFits w64 c.in-Some.m.identity = search rules in
    sent-as (unknown s a.value.now a.message.now (sealed a.message.now m.m m.ensures.0 (word_kept m.m.identity identity.sfits)) (sym c.find_identity.ensures ∙ c.in-None.is))
    (c.close-in-None.ensures a.store.now a.device.now a.readings.now)
