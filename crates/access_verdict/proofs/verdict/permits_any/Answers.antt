use mathlib.Core.Path.{◌∙◌, sym, ap}
use Rattle.access_record.specs.Table.{Acl}
use Rattle.access_record.proofs.TableLaws.{acl_of-at}
use Rattle.access_permission.specs.Permission.{permits_any}
use Rattle.access_verdict.proofs.verdict.permits_any.Goals as goal

pub returns : goal.returns
unfolding permits_any
returns c =
    c.acl_grants.ensures
    ∙ ap (λ (a : Acl). permits_any a c.args.protected c.args.permission) (sym (acl_of-at _ _ c.requires.0.below))
