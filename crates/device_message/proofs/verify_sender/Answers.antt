use mathlib.Core.Path.{◌≡◌, sym, ap, ◌∙◌}
use mathlib.Core.Bool.{Bool}
use mathlib.Core.List.{List}
use Prim.Native.Nat.{ℕ, ◌≤◌}
use native.Mathlib.Omega.{arith}
use lib.ListN.{length, length-take}
use Rattle.base_integers.specs.Signed.{word_of}
use Rattle.access_record.specs.Table.{acl_of}
use Rattle.access_record.specs.Record.{table_of, Placed}
use Rattle.access_record.proofs.LookupLaws.{found-placed}
use Rattle.signature_hmac.specs.Hmac.{hmac, verified}
use Rattle.protocol.specs.State.{lent}
use Rattle.base_definitions.specs.Lists.{same_bytes}
use Rattle.protocol_connection.specs.ConnectionOf.{connection_of}
use Rattle.device_message.specs.MessageLaws.{sent-as, sent-by, wrong-hmac, right-hmac, hmac-right, key-short}
use borrow.Author.Rules.{rules}
use Rattle.device_message.proofs.verify_sender.Goals as goal

-- the digest that was sent is the one that is due, exactly where the check says so
told : (device : List ℕ) (acl : ℕ) (command digest : List ℕ) {k : List ℕ} {r : Bool} → Placed device acl → length command ≤ 8192 → k ≡ (acl_of (table_of device) acl).key → r ≡ verified k command digest
    → same_bytes digest (hmac (acl_of (table_of device) acl).key command) ≡ r
told device acl command digest p h e v =
    hmac-right (acl_of (table_of device) acl).key command digest (key-short device acl p) h ∙ sym (v ∙ ap (λ (k : List ℕ). verified k command digest) e)

pub key_of-requires : goal.key_of-requires
key_of-requires c = found-placed c.args.device.now (word_of c.args.sender.identity) c.args.sender.acl c.requires.2 c.requires.3

pub returns-then-not-verify : goal.returns-then-not-verify
returns-then-not-verify c =
    let a = c.args in
    let s = lent a.store.now a.device.now a.readings.now (connection_of a.sender.connection) in
    let k = (acl_of (table_of a.device.now) a.sender.acl).key in
    sent-as (wrong-hmac s a.value.now (word_of a.sender.identity) a.digest.now a.command.now k (told a.device.now a.sender.acl a.command.now a.digest.now (found-placed c.args.device.now (word_of c.args.sender.identity) c.args.sender.acl c.requires.2 c.requires.3) c.requires.4 c.key_of.ensures c.verify.ensures ∙ c.if-not-verify.true))
    (c.close.ensures a.store.now a.device.now a.readings.now)

pub copy_key-n-requires : goal.copy_key-n-requires
copy_key-n-requires c = (found-placed c.args.device.now (word_of c.args.sender.identity) c.args.sender.acl c.requires.2 c.requires.3, search rules)

pub slice_bounds-key-end : goal.slice_bounds-key-end
slice_bounds-key-end c =
    let k = c.copy_key-n.ensures.1 in
    omega arith

pub slice_bounds-answer_command-end : goal.slice_bounds-answer_command-end
slice_bounds-answer_command-end c =
    let k = c.copy_key-n.ensures.1 in
    simp (length-take) (omega arith)

pub answer_command-requires : goal.answer_command-requires
answer_command-requires c =
    let k = c.copy_key-n.ensures.1 in
    (c.requires.0, simp (length-take) (omega arith), c.requires.1, c.requires.2, c.requires.3, c.requires.5)

pub returns : goal.returns
returns c =
    let a = c.args in
    let s = lent a.store.now a.device.now a.readings.now (connection_of a.sender.connection) in
    let k = (acl_of (table_of a.device.now) a.sender.acl).key in
    sent-as (right-hmac s a.value.now (word_of a.sender.identity) a.digest.now a.command.now k (told a.device.now a.sender.acl a.command.now a.digest.now (found-placed c.args.device.now (word_of c.args.sender.identity) c.args.sender.acl c.requires.2 c.requires.3) c.requires.4 c.key_of.ensures c.verify.ensures ∙ c.if-not-verify.false))
    (sent-by s a.value.now (word_of a.sender.identity) a.command.now c.copy_key-n.ensures.0 c.answer_command.ensures)
