use mathlib.Core.Path.{◌≡◌, sym, ap, subst, ◌∙◌}
use mathlib.Core.List.{List}
use Prim.Native.Nat.{ℕ}
use native.Mathlib.Omega.{arith}
use lib.ListN.{length-take, length-drop}
use borrow.Author.Tests.{not-true, not-false}
use Rattle.protocol.specs.State.{State, lent}
use Rattle.protocol.specs.Frame.{Framing, frame_of}
use Rattle.protocol_connection.specs.ConnectionOf.{connection_of}
use Rattle.request_frame.specs.declared.Framed.{Framed}
use Rattle.request_frame.specs.Framed.{framing, Inside}
use Rattle.device_response.proofs.CalledLaws.{more-due, closing-bad, whole-bad, closing-frame, whole-cut}
use Rattle.device.proofs.answer_frame.Goals as goal

-- what the frame is, when its answer is known to be f
framed : (input : List ℕ) {r f : Framed} → r ≡ f → framing input r ≡ frame_of input → framing input f ≡ frame_of input
framed input e same = sym (ap (framing input) e) ∙ same

inside : (input : List ℕ) {r f : Framed} → r ≡ f → Inside input r → Inside input f
inside input e i = subst (λ (f : Framed). Inside input f) e i

pub returns-then-not-good : goal.returns-then-not-good
returns-then-not-good c =
    let s = lent c.args.store.now c.args.device.now c.args.readings.now (connection_of c.args.connection) in
    closing-bad s c.args.out.now c.args.input.now (sym c.good.ensures ∙ c.if-not-good.true) (framed c.args.input.now c.in-Closes.is c.frame_at.ensures.same)

pub returns-then-not-good-2 : goal.returns-then-not-good-2
returns-then-not-good-2 c =
    let s = lent c.args.store.now c.args.device.now c.args.readings.now (connection_of c.args.connection) in
    whole-bad s c.args.out.now c.args.input.now (sym c.good-in-Whole.ensures ∙ c.if-not-good-2.true) (framed c.args.input.now c.in-Whole.is c.frame_at.ensures.same)

pub overflow_add-m : goal.overflow_add-m
overflow_add-m c =
    let i = inside c.args.input.now c.in-Whole.is c.frame_at.ensures.inside in
    let a = i.1 in
    omega arith

pub overflow_add-v : goal.overflow_add-v
overflow_add-v c =
    let i = inside c.args.input.now c.in-Whole.is c.frame_at.ensures.inside in
    let a = i.1 in
    let b = i.2 in
    omega arith

pub slice_bounds-answer_message-end : goal.slice_bounds-answer_message-end
slice_bounds-answer_message-end c =
    let i = (inside c.args.input.now c.in-Whole.is c.frame_at.ensures.inside).0 in
    omega arith

pub slice_bounds-answer_message-end-in-Whole : goal.slice_bounds-answer_message-end-in-Whole
slice_bounds-answer_message-end-in-Whole c =
    let i = (inside c.args.input.now c.in-Whole.is c.frame_at.ensures.inside).0 in
    omega arith

pub answer_message-r-requires : goal.answer_message-r-requires
answer_message-r-requires c =
    let i = (inside c.args.input.now c.in-Whole.is c.frame_at.ensures.inside).1 in
    (c.requires.0, c.requires.1, c.requires.2, simp (length-take, length-drop) (omega arith), sym c.good-in-Whole.ensures ∙ c.if-not-good-2.false)

pub returns-in-More : goal.returns-in-More
returns-in-More c =
    let s = lent c.args.store.now c.args.device.now c.args.readings.now (connection_of c.args.connection) in
    more-due s c.args.out.now c.args.input.now (framed c.args.input.now c.in-More.is c.frame_at.ensures.same)

pub returns-else-not-good : goal.returns-else-not-good
returns-else-not-good c =
    let s = lent c.args.store.now c.args.device.now c.args.readings.now (connection_of c.args.connection) in
    closing-frame s c.args.out.now c.args.input.now (sym c.good.ensures ∙ c.if-not-good.false) (framed c.args.input.now c.in-Closes.is c.frame_at.ensures.same)
    (c.close-r.ensures c.args.store.now c.args.device.now c.args.readings.now)

pub returns-else-not-good-2 : goal.returns-else-not-good-2
returns-else-not-good-2 c =
    let s = lent c.args.store.now c.args.device.now c.args.readings.now (connection_of c.args.connection) in
    whole-cut s c.args.out.now c.args.input.now (sym c.good-in-Whole.ensures ∙ c.if-not-good-2.false) c.in-Whole.message c.in-Whole.value (framed c.args.input.now c.in-Whole.is c.frame_at.ensures.same) (inside c.args.input.now c.in-Whole.is c.frame_at.ensures.inside).0 c.answer_message-r.ensures
