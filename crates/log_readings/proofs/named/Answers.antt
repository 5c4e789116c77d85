use Rattle.std.proofs.Common.{arith, sym, ◌∙◌, ◌≡◌, ◌+◌, ◌-◌, ap}
use Rattle.log_readings.specs.Lent.{places_from, all_named}
use Rattle.log_readings.specs.LentLaws.{stops, goes, names-step, names-end}
use Rattle.log_readings.proofs.named.Goals as goal

pub loop-i-init : goal.loop-i-init
loop-i-init c =
    let a = c.args in
    let e : a.first + a.n - a.first ≡ a.n = omega arith in
    ap (λ k. all_named (places_from a.s.now a.first k)) e

pub returns-then-not-name_fits : goal.returns-then-not-name_fits
returns-then-not-name_fits c =
    stops _ (names-step _ _ _ c.requires.0 (omega arith) (omega arith)) c.loop-i.invariant (sym c.name_fits.ensures ∙ c.if-not-name_fits.true)

pub loop-i-preserved : goal.loop-i-preserved
loop-i-preserved c =
    let a = c.args in
    let i = c.loop-i.i in
    let e : a.first + a.n - (i + 1) ≡ a.first + a.n - i - 1 = omega arith in
    ap (λ k. all_named (places_from a.s.now (i + 1) k)) e
    ∙ goes (names-step _ _ _ c.requires.0 (omega arith) (omega arith)) c.loop-i.invariant (sym c.name_fits.ensures ∙ c.if-not-name_fits.false)

pub returns : goal.returns
returns c = sym (names-end _ _ _ (omega arith)) ∙ c.loop-i.invariant
