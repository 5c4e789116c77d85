use Rattle.std.proofs.Common.{sym, ap, ◌∙◌}
use Rattle.std.specs.Prelude.{Ok}
use Rattle.fields_rule.proofs.Judging.{marked-below, judges-wrong, judges-as}
use Rattle.fields_rule.proofs.judge.Goals as goal

pub by_rule-requires : goal.by_rule-requires
by_rule-requires c = (c.requires, marked-below c.args.kind c.number_of-n.result c.rule_of.result c.rule_of.ensures)

pub returns-in_default-take_value : goal.returns-in_default-take_value
returns-in_default-take_value c =
    let a = c.args in
    let n = c.number_of-n in
    let r = c.rule_of in
    λ s at is d m. judges-wrong a.kind a.f n.result n.ensures r.result r.ensures a.seen c.in-Some.listed (ap Ok (sym c.in-Some.is) ∙ c.in_ok-listed.ensures) c.in_default-take_value.ensures.0 s is m

pub returns : goal.returns
returns c =
    let a = c.args in
    let n = c.number_of-n in
    let r = c.rule_of in
    let w = c.in-Some-take_value in
    λ s at is d m. judges-as a.kind a.f n.result n.ensures r.result r.ensures a.seen c.in-Some.listed (ap Ok (sym c.in-Some.is) ∙ c.in_ok-listed.ensures) w.what w.ensures.0 w.ensures.1 s at is d m
