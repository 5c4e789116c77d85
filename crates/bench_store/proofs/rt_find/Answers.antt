use Rattle.std.specs.Prelude.{Ok, Err}
use mathlib.Core.Path.{◌∙◌, sym}
use Rattle.store_layout.specs.Entries.{place_of}
use Rattle.bench_store.specs.CallsLaws.{not-searched, searched}
use Rattle.bench_store.proofs.rt_find.Goals as goal

pub returns-then-not-check : goal.returns-then-not-check
returns-then-not-check c = not-searched _ _ (sym c.check.ensures ∙ c.if-not-check.true)

pub returns-in-Ok : goal.returns-in-Ok
unfolding place_of
returns-in-Ok c =
    searched _ _ (sym c.check.ensures ∙ c.if-not-check.false) c.find.ensures (Ok c.in-Ok.i) c.in-Ok.is

pub returns-in-Err : goal.returns-in-Err
unfolding place_of
returns-in-Err c =
    searched _ _ (sym c.check.ensures ∙ c.if-not-check.false) c.find.ensures (Err c.in-Err.i) c.in-Err.is
