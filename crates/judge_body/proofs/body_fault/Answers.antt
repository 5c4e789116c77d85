use mathlib.Core.Path.{sym, ap, ◌∙◌}
use Rattle.fields_lookup.specs.Views.{signed_view}
use Rattle.protocol.specs.Judge.{broken}
use Rattle.request_command.specs.Views.{body_view}
use Rattle.judge_body.proofs.Parts.{is-there}
use Rattle.judge_body.proofs.body_fault.Goals as goal

pub log_code-log-requires : goal.log_code-log-requires
log_code-log-requires c =
    let l = c.requires in
    l.log

pub security_code-security-requires : goal.security_code-security-requires
security_code-security-requires c =
    let l = c.requires in
    record { inside = l.security.inside; reads = l.reads }

pub returns : goal.returns
returns c v e =
    let b = c.before.before.before.before.before.before.before.before.before.before.before in
    let s = b.args.command.now in
    let w = b.args.body in
    let l = b.requires in
    let x0 = c.before.before.before.before.before.before.before.before.before in
    let x1 = c.before.before.before.before.before.before.before.before in
    let x2 = c.before.before.before.before.before.before.before in
    let x3 = c.before.before.before.before.before.before in
    let x4 = c.before.before.before.before.before in
    let x5 = c.before.before.before.before in
    let x6 = c.before.before.before in
    let x7 = c.before.before in
    let x8 = c.before in
    c.fault.ensures (body_view s w) v
    (record {
      value = e;
      pair = sym (x1.broken-pair.ensures ∙ ap broken (x0.key_value_right.ensures s l.entry));
      change = sym (x3.broken-change.ensures ∙ ap broken (x2.change_right.ensures s l.entry));
      range = sym (x5.broken-range.ensures ∙ ap broken (x4.range_right.ensures s l.range));
      setup = ap broken (is-there w.changed (signed_view w.cluster)) ∙ sym x6.broken-setup.ensures;
      log = λ o. sym (x7.log_code-log.ensures o);
      security = λ o. sym (x8.security_code-security.ensures o);
    })
