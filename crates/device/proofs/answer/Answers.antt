use mathlib.Core.Path.{◌≡◌, sym, ap, ◌∙◌}
use mathlib.Core.Bool.{true}
use Prim.Native.Nat.{◌^◌, ◌<◌}
use native.Mathlib.Omega.{arith}
use lib.IntN.{ℤ, pos, negsuc}
use lib.Signed.{mag}
use lib.ListN.{length}
use borrow.Author.Tests.{lt-ltb, le-ltb, not-true, not-false}
use Rattle.base_integers.specs.Signed.{word_of}
use Rattle.store_layout.specs.Store.{store_good}
use Rattle.store_layout.proofs.CheckLaws.{store-decides}
use Rattle.access_record.specs.Table.{table_good}
use Rattle.access_record.specs.Record.{table_of}
use Rattle.protocol.specs.State.{State, lent}
use Rattle.protocol_connection.specs.ConnectionOf.{connection_of}
use Rattle.protocol.specs.Box.{box}
use Rattle.protocol.proofs.CallRefusalLaws.{out-short, store-bad, device-bad, closed-before, not-refused}
use Rattle.device_response.specs.Called.{afterwards}
use Rattle.device_response.proofs.CalledLaws.{told-out-short, told-store-bad, told-device-bad, told-closed}
use Rattle.device.proofs.answer.Goals as goal

below : (x : ℤ) → mag x < 2 ^ 63 → word_of x < 2 ^ 64
below (pos n) h = omega (arith, h)
below (negsuc n) h = omega arith

pub returns-then-out-lt4096 : goal.returns-then-out-lt4096
returns-then-out-lt4096 c =
    let s = lent c.args.store.now c.args.device.now c.args.readings.now (connection_of c.args.connection) in
    (told-out-short s c.args.out.now c.args.input.now (out-short box s (length c.args.out.now) c.args.input.now (lt-ltb _ _ c.if-out-lt4096.true)), below c.args.connection.number c.well_formed.1.1.1.0.1.1.0.1)

pub returns-then-not-check : goal.returns-then-not-check
returns-then-not-check c =
    let s = lent c.args.store.now c.args.device.now c.args.readings.now (connection_of c.args.connection) in
    (told-store-bad s c.args.out.now c.args.input.now (store-bad box s (length c.args.out.now) c.args.input.now (le-ltb _ _ c.if-out-lt4096.false) (sym c.check.ensures ∙ c.if-not-check.true)), below c.args.connection.number c.well_formed.1.1.1.0.1.1.0.1)

pub returns-then-not-record_good : goal.returns-then-not-record_good
returns-then-not-record_good c =
    let s = lent c.args.store.now c.args.device.now c.args.readings.now (connection_of c.args.connection) in
    (told-device-bad s c.args.out.now c.args.input.now (device-bad box s (length c.args.out.now) c.args.input.now (le-ltb _ _ c.if-out-lt4096.false) (sym c.check.ensures ∙ c.if-not-check.false) (sym c.record_good.ensures ∙ c.if-not-record_good.true)), below c.args.connection.number c.well_formed.1.1.1.0.1.1.0.1)

pub returns-then-connection : goal.returns-then-connection
returns-then-connection c =
    let s = lent c.args.store.now c.args.device.now c.args.readings.now (connection_of c.args.connection) in
    (told-closed s c.args.out.now c.args.input.now (closed-before box s (length c.args.out.now) c.args.input.now (le-ltb _ _ c.if-out-lt4096.false) (sym c.check.ensures ∙ c.if-not-check.false) (sym c.record_good.ensures ∙ c.if-not-record_good.false) c.if-connection.true), below c.args.connection.number c.well_formed.1.1.1.0.1.1.0.1)

pub answer_frame-requires : goal.answer_frame-requires
answer_frame-requires c = (c.if-out-lt4096.false, (store-decides c.args.store.now).yes (sym c.check.ensures ∙ c.if-not-check.false), sym c.record_good.ensures ∙ c.if-not-record_good.false)

pub returns : goal.returns
returns c =
    let s = lent c.args.store.now c.args.device.now c.args.readings.now (connection_of c.args.connection) in (
      c.answer_frame.ensures
          ∙ ap (afterwards s c.args.out.now) (sym (not-refused box s (length c.args.out.now) c.args.input.now (le-ltb _ _ c.if-out-lt4096.false) (sym c.check.ensures ∙ c.if-not-check.false) (sym c.record_good.ensures ∙ c.if-not-record_good.false) c.if-connection.false)),
      below c.args.connection.number c.well_formed.1.1.1.0.1.1.0.1,
    )
