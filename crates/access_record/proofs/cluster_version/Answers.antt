use mathlib.Core.Path.{◌∙◌}
use Rattle.base_integers.specs.SignedLaws.{word_kept}
use Rattle.access_record.specs.Record.{table_of}
use Rattle.access_record.proofs.cluster_version.Goals as goal

pub returns : goal.returns
unfolding table_of
returns c = word_kept c.signed_at.result c.signed_at.type_inv ∙ c.signed_at.ensures
