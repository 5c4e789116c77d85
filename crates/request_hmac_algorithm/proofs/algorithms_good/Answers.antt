use mathlib.Core.Path.{◌∙◌, sym}
use borrow.Author.Tests.{eq-eqb, ne_eqb}
use Rattle.fields_schema.specs.declared.Kind.TheVariants as kind
use Rattle.protocol.specs.Command.{acl_of}
use Rattle.request_scope.specs.RestsLaws.{rest-stands}
use Rattle.request_hmac_algorithm.proofs.Algorithms.{judging-start, judging-end, judging-other, judging-on}
use Rattle.request_hmac_algorithm.proofs.algorithms_good.Goals as goal

pub loop-part-init : goal.loop-part-init
loop-part-init c = judging-start c.args.s.now c.args.p c.requires

pub next_part-requires : goal.next_part-requires
next_part-requires c = c.loop-part.invariant.rest.inside

pub algorithm_of-requires : goal.algorithm_of-requires
algorithm_of-requires c =
    let x = c.in-Some in
    rest-stands kind.Acl 2 acl_of c.args.s.now c.loop-part.left c.loop-part.invariant.rest x.part x.rest x.ensures

pub returns-then-algorithm_of-ne1 : goal.returns-then-algorithm_of-ne1
returns-then-algorithm_of-ne1 c =
    let a = c.algorithm_of in
    let x = c.in-Some in
    let o = c.loop-part in
    judging-other o.invariant x.part x.rest x.ensures (ne_eqb _ _ (λ q. c.if-algorithm_of-ne1.true (a.ensures ∙ q)))

pub loop-part-smaller : goal.loop-part-smaller
loop-part-smaller c = c.in-Some.ensures.1.shorter

pub loop-part-preserved : goal.loop-part-preserved
loop-part-preserved c =
    let a = c.algorithm_of in
    let x = c.in-Some in
    let o = c.loop-part in
    judging-on o.invariant x.part x.rest x.ensures (eq-eqb _ _ (sym a.ensures ∙ c.if-algorithm_of-ne1.false))

pub returns : goal.returns
returns c = judging-end c.loop-part.invariant c.in_default.ensures
