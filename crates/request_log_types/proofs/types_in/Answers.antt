use native.Mathlib.Omega.{arith}
use Rattle.request_log_types.proofs.Walk.{walk_start, walk_end, walk-small, walk-on}
use Rattle.request_log_types.proofs.types_in.Goals as goal

pub loop-value-init : goal.loop-value-init
loop-value-init c = walk_start c.args.s.now c.args.p c.args.before c.requires.0 c.requires.1

pub next_num-requires : goal.next_num-requires
next_num-requires c = c.loop-value.invariant.inside

pub overflow_cast-value : goal.overflow_cast-value
overflow_cast-value c = let x = c.in-Some in let h = walk-small c.loop-value.invariant x.value x.rest x.ensures in record { fits = omega arith }

pub with_bit-mask-requires : goal.with_bit-mask-requires
with_bit-mask-requires c = let x = c.in-Some in let h = walk-small c.loop-value.invariant x.value x.rest x.ensures in omega arith

pub loop-value-smaller : goal.loop-value-smaller
loop-value-smaller c = c.in-Some.ensures.shorter

pub loop-value-preserved : goal.loop-value-preserved
loop-value-preserved c =
    let x = c.in-Some in
    let w = c.with_bit-mask in
    walk-on c.loop-value.invariant x.value x.rest x.ensures w.result w.ensures

pub returns : goal.returns
returns c = walk_end c.loop-value.invariant c.in_default.ensures
