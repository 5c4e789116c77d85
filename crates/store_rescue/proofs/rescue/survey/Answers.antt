use native.Mathlib.Omega.{arith}
use Rattle.store_rescue.proofs.SurveyLaws.{surveying-start, surveying-more, surveyed}
use Rattle.store_rescue.proofs.rescue.survey.Goals as goal

pub loop-i-init : goal.loop-i-init
loop-i-init c = surveying-start c.args.store.now _ _ c.requires.1.0 c.requires.1.1

pub admit-step-requires : goal.admit-step-requires
admit-step-requires c =
    let z = c.requires.0 in
    let w = z.whole in
    let m = z.most in
    let n = c.loop-i.invariant.long in
    let h = c.loop-i-test.true in
    (c.loop-i.invariant.listed, record { small = omega arith; inside = omega arith })

pub loop-i-preserved : goal.loop-i-preserved
loop-i-preserved c =
    let d = c.loop-i in
    let n = d.invariant.long in
    let h = c.loop-i-test.true in
    surveying-more c.args.store.now d.i d.kept d.report d.order _ _ _ (omega arith) d.invariant c.admit-step.ensures

pub shape_of-order : goal.shape_of-order
shape_of-order c = let n = c.loop-i.invariant.listed.room in let m = c.requires.1.1 in omega arith

pub returns : goal.returns
returns c = let d = c.loop-i in
    let n = d.invariant.long in
    surveyed c.args.store.now d.i d.kept _ _ (omega arith) d.invariant
