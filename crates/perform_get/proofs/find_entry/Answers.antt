use mathlib.Core.Path.{sym, subst}
use Rattle.operation_get.specs.Shown.{Showing}
use Rattle.perform_get.specs.declared.Which.{Which}
use Rattle.perform_get.specs.Sought.{Looks, sought}
use Rattle.perform_get.proofs.find_entry.Goals as goal

pub get_next-requires : goal.get_next-requires
get_next-requires c =
    let looks = subst (Looks c.args.device.now) c.in-Next.is c.requires.1 in
    (c.requires.0, looks)

pub get_previous-requires : goal.get_previous-requires
get_previous-requires c =
    let looks = subst (Looks c.args.device.now) c.in-Previous.is c.requires.1 in
    (c.requires.0, looks)

pub returns-in-Own : goal.returns-in-Own
returns-in-Own c =
    let a = c.args in
    subst (λ (w : Which). Showing a.store.now c.get.result (λ s. sought w a.device.now s a.key.now)) (sym c.in-Own.is) c.get.ensures

pub returns-in-Next : goal.returns-in-Next
returns-in-Next c =
    let a = c.args in
    subst (λ (w : Which). Showing a.store.now c.get_next.result (λ s. sought w a.device.now s a.key.now)) (sym c.in-Next.is) c.get_next.ensures

pub returns-in-Previous : goal.returns-in-Previous
returns-in-Previous c =
    let a = c.args in
    subst (λ (w : Which). Showing a.store.now c.get_previous.result (λ s. sought w a.device.now s a.key.now)) (sym c.in-Previous.is) c.get_previous.ensures
