use Rattle.store_rescue.specs.Survey.{Surveying}
use Rattle.store_rescue.proofs.rescue.survey.Given as goal

abbrev pub invariant-loop-i : goal.invariant-loop-i
invariant-loop-i l = Surveying l.store l.i l.kept l.report l.order
