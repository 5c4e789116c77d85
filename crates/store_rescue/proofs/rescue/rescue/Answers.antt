use mathlib.Core.Path.{◌≡◌, ◌∙◌, refl, sym}
use mathlib.Core.Bool.{true}
use Rattle.store_layout.specs.Store.{size_good}
use Rattle.store_layout.specs.Size.{SizeGood}
use Rattle.store_layout.proofs.SizeLaws.{size-decides}
use Rattle.store_rescue.proofs.SurveyLaws.{names, distinct, fits, put_right, store-refused, report-refused, done}
use Rattle.store_rescue.proofs.rescue.rescue.Goals as goal
use Rattle.store_rescue.proofs.rescue.rescue.Goals.{Else-not-size_good}

-- the store has whole blocks
sized : (c : Else-not-size_good) → size_good c.args.store.now ≡ true
sized c = sym c.size_good.ensures ∙ c.if-not-size_good.false

whole : (c : Else-not-size_good) → SizeGood c.args.store.now
whole c = (size-decides _).yes (sized c)

pub returns-then-not-size_good : goal.returns-then-not-size_good
returns-then-not-size_good c = store-refused _ _ (sym c.size_good.ensures ∙ c.if-not-size_good.true)

pub returns-then-report-store : goal.returns-then-report-store
returns-then-report-store c = report-refused _ _ (sized (goal.at.returns-then-report-store c).Else-not-size_good) c.if-report-store.true

pub survey-kept-requires : goal.survey-kept-requires
survey-kept-requires c = (whole (goal.at.survey-kept-requires c).Else-not-size_good, (c.if-report-store.false, refl))

pub arrange-requires : goal.arrange-requires
arrange-requires c =
    let l = c.args.store.now in
    let w = whole (goal.at.arrange-requires c).Else-not-size_good in
    let f = fits l w _ _ _ c.survey-kept.ensures in
    (f.0, f.1, names l w _ _ _ c.survey-kept.ensures, distinct l w _ _ _ c.survey-kept.ensures)

pub returns : goal.returns
returns c = let d = (goal.at.returns c).Else-not-size_good in
    let l = c.args.store.now in
    done l c.args.report.now _ _ (sized d) c.if-report-store.false
    (c.arrange.ensures ∙ put_right l (whole d) _ _ _ c.survey-kept.ensures) c.survey-kept.ensures.told
