use mathlib.Core.Path.{◌∙◌, sym, ap}
use Rattle.access_record.specs.Table.{Acl}
use Rattle.access_record.proofs.TableLaws.{acl_of-at}
use Rattle.access_permission.specs.Permission.{permits}
use Rattle.access_verdict.proofs.verdict.permits.Goals as goal

pub returns : goal.returns
unfolding permits
returns c =
    let k = c.args.key.now in
    c.acl_grants.ensures
    ∙ ap (λ (a : Acl). permits a c.args.protected c.args.permission k) (sym (acl_of-at _ _ c.requires.0.below))
