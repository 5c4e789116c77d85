use mathlib.Core.Path.{◌≡◌, ◌∙◌, sym, ap}
use mathlib.Core.Bool.{true}
use Rattle.store_block.specs.Entry.{entry}
use Rattle.store_layout.specs.Store.{store_good}
use Rattle.std.specs.Prelude.{Ok, Err}
use Rattle.store_layout.specs.declared.PutError.TheVariants.{Full, Unfit}
use Rattle.bench_store.specs.CallsLaws.{good-store, not-put, not-sized, put_as}
use Rattle.bench_store.proofs.rt_put.Goals as goal
use Rattle.bench_store.proofs.rt_put.Goals.{Else-not-check}

good : (c : Else-not-check) → store_good c.args.store.now ≡ true
good c = sym c.check.ensures ∙ c.if-not-check.false

pub returns-then-not-check : goal.returns-then-not-check
returns-then-not-check c =
    let z = c.args in
    not-put z.store.now (entry z.key.now z.version.now z.tag.now z.value.now z.algorithm) (sym c.check.ensures ∙ c.if-not-check.true)

pub returns-then-not-sized : goal.returns-then-not-sized
returns-then-not-sized c =
    let z = c.args in
    not-sized z.store.now (entry z.key.now z.version.now z.tag.now z.value.now z.algorithm) (good (goal.at.returns-then-not-sized c).Else-not-check) ((c.sized.ensures z.algorithm).no c.if-not-sized.true)

pub put-requires : goal.put-requires
put-requires c =
    let z = c.args in
    (good-store z.store.now (good (goal.at.put-requires c).Else-not-check), (c.sized.ensures z.algorithm).yes c.if-not-sized.false)

pub returns-in-Ok : goal.returns-in-Ok
returns-in-Ok c =
    let z = c.args in
    put_as z.store.now (entry z.key.now z.version.now z.tag.now z.value.now z.algorithm) (good (goal.at.returns-in-Ok c).Else-not-check) c.put.ensures.value c.put.ensures.store_after (Ok tt) c.in-Ok.is

pub returns-in-Err-Full : goal.returns-in-Err-Full
returns-in-Err-Full c =
    let z = c.args in
    put_as z.store.now (entry z.key.now z.version.now z.tag.now z.value.now z.algorithm) (good (goal.at.returns-in-Err-Full c).Else-not-check) c.put.ensures.value c.put.ensures.store_after (Err Full) (c.in-Err-Full.is ∙ ap Err c.in-Err-Full.field-0-is)

pub returns-in-Err-Unfit : goal.returns-in-Err-Unfit
returns-in-Err-Unfit c =
    let z = c.args in
    put_as z.store.now (entry z.key.now z.version.now z.tag.now z.value.now z.algorithm) (good (goal.at.returns-in-Err-Unfit c).Else-not-check) c.put.ensures.value c.put.ensures.store_after (Err Unfit) (c.in-Err-Unfit.is ∙ ap Err c.in-Err-Unfit.field-0-is)
