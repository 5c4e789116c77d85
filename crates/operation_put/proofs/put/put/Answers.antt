use mathlib.Core.Path.{sym, ◌∙◌}
use Rattle.operation_put.specs.PutLaws.{put_wrong, put_right}
use Rattle.operation_put.proofs.put.put.Goals as goal

pub returns-then-not-version_fits : goal.returns-then-not-version_fits
returns-then-not-version_fits c = λ k p. put_wrong c.args.value.now c.requires.0 p c.compare_version.result c.compare_version.ensures (sym c.if-not-version_fits.true ∙ c.version_fits.ensures)

pub returns : goal.returns
returns c = let t = c.put in
    λ k p. put_right c.args.value.now c.requires.0 p c.compare_version.result c.compare_version.ensures (sym c.if-not-version_fits.false ∙ c.version_fits.ensures) t.result t.ensures.value t.ensures.store_after c.put_code.ensures
