use mathlib.Core.Path.{◌∙◌, sym}
use Rattle.access_record.proofs.LookupLaws.{found-placed}
use borrow.Author.Rules.{rules}
use Rattle.program_permission.proofs.judge.Goals as goal

pub permits-yes-requires : goal.permits-yes-requires
permits-yes-requires c =
    (found-placed _ _ _ (sym c.record_good.ensures ∙ c.if-not-record_good.false) (sym c.find_identity.ensures ∙ c.in-Some.is), search rules)

pub permits_any-yes-requires : goal.permits_any-yes-requires
permits_any-yes-requires c =
    (found-placed _ _ _ (sym c.record_good.ensures ∙ c.if-not-record_good.false) (sym c.find_identity.ensures ∙ c.in-Some.is), search rules)
