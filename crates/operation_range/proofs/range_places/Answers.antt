use Prim.Native.Nat.{ℕ, ◌-◌, ◌≤◌}
use native.Mathlib.Omega.{arith}
use mathlib.Core.Bool.{Bool, not, cond}
use mathlib.Core.Path.{◌≡◌, sym, ap, ◌∙◌}
use lib.ListN.{length}
use Rattle.store_layout.specs.Store.{entries_of}
use Rattle.store_layout.proofs.StoreLaws.{room}
use Rattle.access_permission.specs.Permissions.{RANGE}
use Rattle.operation_visible.specs.Seen.{seen_by}
use Rattle.operation_range.specs.Range.{range_by}
use Rattle.operation_range.specs.RangeLaws.{range-law, bound-most, first-most}
use Rattle.operation_range.proofs.range_places.Goals as goal
use Rattle.operation_range.proofs.range_places.Goals.{After-saturating_sub, then-options, else-options}

-- the first place, ascending or not
first : (c : After-saturating_sub) → c.if-options.first ≡ cond c.args.options.reverse (c.bound-high.result - 1) c.bound-low.result
first c =
    let way : Bool → ℕ = λ b. cond b (c.bound-high.result - 1) c.bound-low.result in
    elim c.if-options.branch [
      | then-options w ↦ w.first-is ∙ w.saturating_sub-first.ensures ∙ sym (ap way w.if-options.true)
      | else-options w ↦ w.first-is ∙ sym (ap way w.if-options.false)
    ]

pub list_visible-requires : goal.list_visible-requires
list_visible-requires c =
    let d = (goal.at.list_visible-requires c).After-saturating_sub in
    let g = c.requires.0 in
    let l = c.args.store.now in
    let o = c.args.options in
    let low = c.bound-low in
    let high = c.bound-high in
    let n = length (entries_of l) in
    let a : low.result ≤ n = omega (arith, low.ensures, bound-most o.start_inclusive c.args.start.now (entries_of l)) in
    let b : high.result ≤ n = omega (arith, high.ensures, bound-most (not o.end_inclusive) c.args.end.now (entries_of l)) in
    (g, c.requires.1, omega (arith, first d, first-most o.reverse high.result low.result n b a, c.saturating_sub.ensures, b, room l, g.most), c.requires.2)

pub returns : goal.returns
returns c =
    let d = (goal.at.returns c).After-saturating_sub in
    let g = c.requires.0 in
    let l = c.args.store.now in
    let o = c.args.options in
    let low = c.bound-low in
    let high = c.bound-high in
    let w = c.list_visible.ensures in (
      w.0
          ∙ range-law (seen_by c.args.device.now c.args.viewer RANGE) (range_by c.args.start.now c.args.end.now o) (entries_of l) low.result high.result c.if-options.first
          c.saturating_sub.result g.sorted low.ensures high.ensures (first d) c.saturating_sub.ensures,
      w.1,
    )
