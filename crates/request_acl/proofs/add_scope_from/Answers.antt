use mathlib.Core.Path.{◌∙◌, sym, ap}
use Rattle.access_record.specs.Table as access
use Rattle.access_table_write.specs.Write.{put_scope}
use Rattle.fields_lookup.proofs.SliceLaws.{slice_at}
use Rattle.request_acl.proofs.Scopes.{slice-short, makes-no, sliced}
use Rattle.request_acl.proofs.add_scope_from.Goals as goal

pub read_scope-requires : goal.read_scope-requires
read_scope-requires c = c.requires.2

pub returns-in_default : goal.returns-in_default
returns-in_default c = makes-no _ _ _ c.in_default.ensures

pub add_scope-requires : goal.add_scope-requires
add_scope-requires c =
    let r = c.in-Some in
    (c.requires.0, c.requires.1, slice-short c.args.s.now r.c.value r.ensures.inside r.ensures.short)

pub returns : goal.returns
returns c =
    let r = c.in-Some in
    let s = c.args.s.now in
    record {
      answer = sym r.ensures.taken;
      made = λ w. c.add_scope.ensures
          ∙ ap (λ (x : access.Scope). put_scope c.args.device.now c.args.place c.args.number x) (sliced s r.c (slice_at s r.c.value) ∙ r.ensures.says);
    }
