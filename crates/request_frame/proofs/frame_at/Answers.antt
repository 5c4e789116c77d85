use Prim.Native.Nat.{◌≤◌}
use native.Mathlib.Omega.{arith}
use lib.ListN.{length}
use Rattle.request_frame.specs.FramedLaws.{framed-none, wrong_byte, long-message, long-value, more-due, whole-there}
use Rattle.request_frame.proofs.frame_at.Goals as goal

pub returns-then-input-eq0 : goal.returns-then-input-eq0
returns-then-input-eq0 c = framed-none c.args.input.now c.if-input-eq0.true

pub returns-then-input-ne70 : goal.returns-then-input-ne70
returns-then-input-ne70 c =
    let s = c.args.input.now in
    let some : 1 ≤ length s = omega arith in
    wrong_byte s some c.if-input-ne70.true

pub returns-then-message-gt8192 : goal.returns-then-message-gt8192
returns-then-message-gt8192 c =
    let s = c.args.input.now in
    let some : 1 ≤ length s = omega arith in
    let m = c.length_at-message.ensures.0 in
    long-message s some c.if-input-ne70.false (omega arith)

pub returns-then-value-gt1024 : goal.returns-then-value-gt1024
returns-then-value-gt1024 c =
    let s = c.args.input.now in
    let some : 1 ≤ length s = omega arith in
    let m = c.length_at-message.ensures.0 in
    let v = c.length_at-value.ensures.0 in
    long-value s some c.if-input-ne70.false (omega arith) (omega arith)

pub returns-then-input-message : goal.returns-then-input-message
returns-then-input-message c =
    let s = c.args.input.now in
    let some : 1 ≤ length s = omega arith in
    let m = c.length_at-message.ensures.0 in
    let v = c.length_at-value.ensures.0 in
    more-due s some c.if-input-ne70.false (omega arith) (omega arith) (omega arith)

pub returns : goal.returns
returns c =
    let s = c.args.input.now in
    let some : 1 ≤ length s = omega arith in
    let m = c.length_at-message in
    let v = c.length_at-value in
    whole-there s m.result v.result some c.if-input-ne70.false m.ensures.0 v.ensures.0 c.if-message-gt8192.false c.if-value-gt1024.false c.if-input-message.false
