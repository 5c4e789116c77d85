use Prim.Native.Nat.{ℕ, ◌+◌, ◌-◌, ◌<◌}
use native.Mathlib.Omega.{arith}
use mathlib.Core.Path.{◌≡◌, refl, sym, ap, ◌∙◌}
use lib.ListN.{length, set, take}
use Rattle.store_layout.specs.Store.{entries_of}
use Rattle.operation_visible.specs.declared.Run.{Run}
use Rattle.operation_visible.specs.Runs.{onward}
use Rattle.access_permission.specs.Permissions.{RANGE}
use Rattle.operation_visible.specs.Seen.{seen_by}
use Rattle.operation_range.specs.Keys.{keys_at, listed, listed_of}
use Rattle.operation_range.specs.RangeLaws.{list-start, list_full, list-ended, list_next}
use Rattle.operation_range.proofs.list_visible.Goals as goal

pub loop-n-init : goal.loop-n-init
loop-n-init c = (c.requires.2, refl)

pub returns-then-left-eq0 : goal.returns-then-left-eq0
returns-then-left-eq0 c =
    let o = c.loop-n in
    let r = o.rest in
    let run = c.args.run in
    let es = entries_of c.args.store.now in
    let f = seen_by c.args.device.now c.args.viewer RANGE in
    let more = c.loop-n-test.true in
    let e = c.skip_hidden-left.ensures.0 in (
      list-ended f es r.reverse c.args.most o.places o.n r.first r.count (sym (ap (λ (r : Run). r.count) e) ∙ c.if-left-eq0.true)
          ∙ o.invariant.1
          ∙ list-start f es run.reverse c.args.most c.args.places.now run.first run.count,
      omega arith,
    )

pub loop-n-preserved : goal.loop-n-preserved
loop-n-preserved c =
    let o = c.loop-n in
    let r = o.rest in
    let es = entries_of c.args.store.now in
    let most = c.args.most in
    let f = seen_by c.args.device.now c.args.viewer RANGE in
    let left = c.skip_hidden-left in
    let e = left.ensures.0 in
    let some = c.if-left-eq0.false in
    let more = c.loop-n-test.true in
    let room : o.n < length o.places = omega (arith, more, c.requires.3) in (
      c.rest-rest.ensures.1,
      ap (listed_of f es most (set o.places o.n left.result.first) (o.n + 1)) c.rest-rest.ensures.0
          ∙ ap (λ (r : Run). listed f es r.reverse most (set o.places o.n r.first) (o.n + 1) (onward r.reverse r.first) (r.count - 1)) e
          ∙ list_next f es most o.places o.n r room more (λ z. some (ap (λ (r : Run). r.count) e ∙ z))
          ∙ o.invariant.1,
    )

pub returns : goal.returns
returns c =
    let o = c.loop-n in
    let r = o.rest in
    let run = c.args.run in
    let es = entries_of c.args.store.now in
    let f = seen_by c.args.device.now c.args.viewer RANGE in
    let full : c.args.most ≡ o.n = omega arith in (
      ap (λ (n : ℕ). keys_at es (take n o.places)) full
          ∙ list_full f es r.reverse c.args.most o.places o.n r.first r.count (omega arith)
          ∙ o.invariant.1
          ∙ list-start f es run.reverse c.args.most c.args.places.now run.first run.count,
      omega arith,
    )
