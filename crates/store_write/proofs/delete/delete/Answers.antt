use Rattle.std.specs.Prelude.{Ok}
use mathlib.Core.Path.{◌≡◌, ◌∙◌, sym}
use Rattle.store_layout.specs.Store.{entries_of}
use Rattle.store_layout.specs.Entries.{find_in}
use Rattle.store_write.specs.ChangeLaws.{delete-low, taken, kept}
use Rattle.store_write.proofs.delete.delete.Goals as goal
use Rattle.store_write.proofs.delete.delete.Goals.{In-Ok}

found : (c : In-Ok) → Ok c.in-Ok.i ≡ find_in c.args.key.now (entries_of c.args.store.now)
found c = sym c.in-Ok.is ∙ c.find.ensures.same c.requires

pub remove-requires : goal.remove-requires
remove-requires c = let s = c.args in
    (c.requires, delete-low s.store.now c.requires s.key.now _ (found (goal.at.remove-requires c).In-Ok))

pub returns-in-Ok : goal.returns-in-Ok
returns-in-Ok c = let s = c.args in
    let t = taken s.store.now c.requires s.key.now _ (found (goal.at.returns-in-Ok c).In-Ok) in
    record { value = t.0; store_after = c.remove.ensures ∙ t.1 }

pub returns-in-Err : goal.returns-in-Err
returns-in-Err c = let s = c.args in
    let t = kept s.store.now c.requires s.key.now _ (sym c.in-Err.is ∙ c.find.ensures.same c.requires) in
    record { value = t.0; store_after = t.1 }
