use native.Mathlib.Omega.{arith}
use mathlib.Core.Path.{refl, sym, ap, ◌∙◌}
use Rattle.store_layout.specs.Store.{entries_of}
use Rattle.operation_visible.specs.declared.Run.{Run}
use Rattle.operation_visible.specs.Runs.{skipped}
use Rattle.operation_visible.specs.RunLaws.{skip-found, skip-hidden, skip-end}
use Rattle.operation_visible.specs.Seen.{seen_by}
use Rattle.operation_visible.proofs.skip_hidden.Goals as goal

pub loop-left-init : goal.loop-left-init
loop-left-init c = (c.requires.3, refl)

pub returns-then-is_visible : goal.returns-then-is_visible
returns-then-is_visible c =
    let o = c.loop-left in
    let r = o.left in
    let f = seen_by c.args.device.now c.args.viewer c.args.permission in
    (skip-found f (entries_of c.args.store.now) r.reverse r.first r.count c.loop-left-test.true (sym c.is_visible.ensures ∙ c.if-is_visible.true) ∙ o.invariant.1, o.invariant.0)

pub loop-left-smaller : goal.loop-left-smaller
loop-left-smaller c = let more = c.loop-left-test.true in let e = ap (λ (r : Run). r.count) c.rest-left.ensures.0 in omega arith

pub loop-left-preserved : goal.loop-left-preserved
loop-left-preserved c =
    let o = c.loop-left in
    let r = o.left in
    let es = entries_of c.args.store.now in
    let f = seen_by c.args.device.now c.args.viewer c.args.permission in
    let more = c.loop-left-test.true in (
      c.rest-left.ensures.1,
      ap (skipped f es) c.rest-left.ensures.0
          ∙ sym (skip-hidden f es r.reverse r.first r.count more (sym c.is_visible.ensures ∙ c.if-is_visible.false))
          ∙ o.invariant.1,
    )

pub returns : goal.returns
returns c =
    let o = c.loop-left in
    let r = o.left in
    let f = seen_by c.args.device.now c.args.viewer c.args.permission in
    (skip-end f (entries_of c.args.store.now) r.reverse r.first r.count c.loop-left-test.false ∙ o.invariant.1, o.invariant.0)
