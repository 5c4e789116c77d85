use Prim.Native.Nat.{◌-◌}
use native.Mathlib.Omega.{arith}
use mathlib.Core.Path.{◌≡◌}
use Rattle.reply_log_sample.proofs.SamplesLaws.{samples-none, samples-more, samples-all}
use Rattle.reply_log_sample.proofs.push_samples.Goals as goal

pub loop-i-init : goal.loop-i-init
loop-i-init c =
    let a = c.args in
    let few = c.requires.0.few in
    (omega arith, omega arith, omega arith, samples-none a.n a.temperature a.readings.now a.first a.count c.requires.4)

pub overflow_add-first : goal.overflow_add-first
overflow_add-first c =
    let o = c.loop-i in
    omega (arith, c.requires.1, c.requires.0.few, o.invariant.0)

pub push_sample-p-requires : goal.push_sample-p-requires
push_sample-p-requires c =
    let o = c.loop-i in
    let w = o.invariant.3 in
    let f = w.from in
    let l = w.long in
    let h = w.fits in
    (c.requires.0.each (o.i - 1) (omega (arith, o.invariant.0)), c.requires.2, omega arith, omega arith)

pub loop-i-preserved : goal.loop-i-preserved
loop-i-preserved c =
    let a = c.args in
    let o = c.loop-i in
    let w = c.push_sample-p.ensures in
    (omega arith, omega (arith, w.1), omega (arith, w.1), samples-more a.n a.temperature a.readings.now a.first a.count o.i (omega arith) o.invariant.0 w.0 o.invariant.3)

pub shape_of-out : goal.shape_of-out
shape_of-out c = c.loop-i.invariant.3.long

pub returns : goal.returns
returns c =
    let a = c.args in
    let o = c.loop-i in
    let e : o.i ≡ 0 = omega arith in
    (samples-all a.n a.temperature a.readings.now a.first a.count e o.invariant.3, omega (arith, c.requires.0.few, o.invariant.2))
