use mathlib.Core.Bool.{cond}
use mathlib.Core.Path.{sym, ap, ◌∙◌}
use Rattle.store_layout.specs.Store.{entries_of}
use Rattle.store_layout.specs.Entries.{below, up_to}
use Rattle.operation_range.proofs.bound.Goals as goal

pub returns-then-inclusive : goal.returns-then-inclusive
returns-then-inclusive c =
    let es = entries_of c.args.store.now in
    let k = c.args.key.now in
    c.first_from.ensures c.requires ∙ ap (λ b. cond b (below k es) (up_to k es)) (sym c.if-inclusive.true)

pub returns-else-inclusive : goal.returns-else-inclusive
returns-else-inclusive c =
    let es = entries_of c.args.store.now in
    let k = c.args.key.now in
    c.first_above.ensures c.requires ∙ ap (λ b. cond b (below k es) (up_to k es)) (sym c.if-inclusive.false)
