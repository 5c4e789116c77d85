use mathlib.Core.Path.{subst}
use Prim.Native.Nat.{◌^◌, ◌<◌}
use Rattle.protocol.specs.State.{Connection}
use Rattle.c_abi.proofs.Steps.{answering-call}
use Rattle.c_abi.proofs.ridgeladle_answer.Goals as goal

pub connection_at-c-requires : goal.connection_at-c-requires
connection_at-c-requires c = tt

pub answer-r-requires : goal.answer-r-requires
answer-r-requires c = tt

pub note-requires : goal.note-requires
note-requires c = tt

pub shape_of-store : goal.shape_of-store
shape_of-store c = c.store-1.given

pub shape_of-out : goal.shape_of-out
shape_of-out c = c.out-1.given

pub returns : goal.returns
returns c =
    let z = c.args in
    let a = c.answer-r in
    let at = c.connection_at-c in
    (answering-call z.store.now z.device.now z.connection.now z.readings.now z.input.now z.out.now z.counts.now at.ensures a.new.store a.new.device a.new.out a.result a.ensures.0 c.note.ensures, subst (λ (d : Connection). d.number < 2 ^ 64) at.ensures a.ensures.1)
