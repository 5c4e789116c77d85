use Rattle.std.proofs.Common.{sym, ◌∙◌, subst}
use borrow.Author.Tests.{not-false}
use Rattle.log_readings.specs.Places.{Places}
use Rattle.log_readings.specs.LentLaws.{temperatures-placed, utilizations-placed}
use Rattle.program_readings.proofs.area.Goals as goal

pub temperatures-requires : goal.temperatures-requires
temperatures-requires g c = sym c.good.ensures ∙ c.if-not-good.false

pub places-requires : goal.places-requires
places-requires g c =
    let l = c.args.s.now in
    subst (Places l 0) (sym c.temperatures.ensures.0) (temperatures-placed l (sym c.good.ensures ∙ c.if-not-good.false))

pub utilizations-requires : goal.utilizations-requires
utilizations-requires g c = sym c.good.ensures ∙ c.if-not-good.false

pub places-requires-2 : goal.places-requires-2
places-requires-2 g c =
    let l = c.args.s.now in
    subst (Places l 4) (sym c.utilizations.ensures.0) (utilizations-placed l (sym c.good.ensures ∙ c.if-not-good.false))
