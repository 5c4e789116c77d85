use Prim.Native.Nat.{◌-◌}
use native.Mathlib.Omega.{arith}
use mathlib.Core.Bool.{true}
use mathlib.Core.Path.{sym, ap, ◌∙◌}
use Rattle.base_definitions.specs.Lists.{first, only}
use Rattle.store_layout.specs.Store.{entries_of}
use Rattle.store_layout.proofs.StoreLaws.{room}
use Rattle.store_layout.specs.Entries.{previous_of}
use Rattle.store_layout.proofs.EntriesLaws.{below-most}
use Rattle.operation_visible.specs.Runs.{entries_from}
use Rattle.operation_visible.specs.BoundLaws.{previous-run}
use Rattle.access_permission.specs.Permissions.{READ}
use Rattle.operation_visible.specs.Seen.{seen_by}
use Rattle.operation_get.specs.ShownLaws.{shown-as}
use Rattle.operation_get.proofs.get_previous.Goals as goal

pub next_place-first-requires : goal.next_place-first-requires
next_place-first-requires c =
    let g = c.requires.0 in
    let l = c.args.store.now in
    omega (arith, c.first_from-count.ensures g, below-most c.args.key.now (entries_of l), room l, g.most)

pub first_visible-requires : goal.first_visible-requires
first_visible-requires c =
    let g = c.requires.0 in
    let l = c.args.store.now in
    (g, c.requires.1, omega (arith, c.next_place-first.ensures, c.first_from-count.ensures g, below-most c.args.key.now (entries_of l), room l, g.most))

pub returns : goal.returns
returns c =
    let g = c.requires.0 in
    let l = c.args.store.now in
    let k = c.args.key.now in
    let es = entries_of l in
    let f = seen_by c.args.device.now c.args.viewer READ in
    let i = c.next_place-first in
    let n = c.first_from-count in
    shown-as l g (λ es. first (only f (entries_from true i.result n.result es))) (λ es. previous_of k (only f es))
    (ap (λ i. first (only f (entries_from true i n.result es))) i.ensures ∙ ap (λ n. first (only f (entries_from true (n - 1) n es))) (n.ensures g) ∙ sym (previous-run f k es g.sorted))
    c.first_visible.ensures
