use mathlib.Core.Bool.{not}
use mathlib.Core.Path.{sym, ap, ◌∙◌}
use Rattle.request_parts.specs.Views.{key_value_view}
use Rattle.judge_body.proofs.Parts.{only-metadata, whole-value}
use Rattle.judge_body.proofs.change_right.Goals as goal

pub returns-else-not-flag_of : goal.returns-else-not-flag_of
returns-else-not-flag_of c s l =
    let a = c.args in
    let e = c.if-not-flag_of.false in
    ap not e ∙ only-metadata a.keyed (key_value_view s a.k) (sym c.flag_of.ensures ∙ e)

pub returns-then-not-flag_of : goal.returns-then-not-flag_of
returns-then-not-flag_of c s l =
    let a = c.args in
    c.key_value_right.ensures s l
    ∙ whole-value a.keyed (key_value_view s a.k) (sym c.flag_of.ensures ∙ c.if-not-flag_of.true)
