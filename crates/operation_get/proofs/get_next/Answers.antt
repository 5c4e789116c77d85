use Prim.Native.Nat.{◌-◌}
use native.Mathlib.Omega.{arith}
use mathlib.Core.Bool.{false}
use mathlib.Core.Path.{sym, ap₂, ◌∙◌}
use Rattle.base_definitions.specs.Lists.{first, only}
use Rattle.store_layout.specs.Store.{entries_of}
use Rattle.store_layout.proofs.StoreLaws.{room}
use Rattle.store_layout.specs.Entries.{next_of}
use Rattle.store_layout.proofs.EntriesLaws.{up_to-most}
use Rattle.operation_visible.specs.Runs.{entries_from}
use Rattle.operation_visible.specs.BoundLaws.{next-run}
use Rattle.access_permission.specs.Permissions.{READ}
use Rattle.operation_visible.specs.Seen.{seen_by}
use Rattle.operation_get.specs.ShownLaws.{shown-as}
use Rattle.operation_get.proofs.get_next.Goals as goal

pub overflow_sub-count : goal.overflow_sub-count
overflow_sub-count c =
    let g = c.requires.0 in
    let i = c.first_above-first.ensures g in
    let n = c.count.ensures g in
    omega (arith, up_to-most c.args.key.now (entries_of c.args.store.now))

pub first_visible-requires : goal.first_visible-requires
first_visible-requires c =
    let g = c.requires.0 in
    let l = c.args.store.now in
    let i = c.first_above-first.ensures g in
    let n = c.count.ensures g in
    (g, c.requires.1, omega (arith, i, n, up_to-most c.args.key.now (entries_of l), room l, g.most))

pub returns : goal.returns
returns c =
    let g = c.requires.0 in
    let l = c.args.store.now in
    let k = c.args.key.now in
    let es = entries_of l in
    let f = seen_by c.args.device.now c.args.viewer READ in
    let i = c.first_above-first in
    let n = c.count in
    shown-as l g (λ es. first (only f (entries_from false i.result (n.result - i.result) es))) (λ es. next_of k (only f es))
    (ap₂ (λ i n. first (only f (entries_from false i (n - i) es))) (i.ensures g) (n.ensures g) ∙ sym (next-run f k es g.sorted))
    c.first_visible.ensures
