use Rattle.base_definitions.specs.Lists.{fill}
use Rattle.access_record_bytes.specs.WroteLaws.{◌then◌}
use Rattle.access_record_bytes.proofs.put_filled.Goals as goal

pub returns : goal.returns
unfolding fill
returns c = c.put_bytes-end.ensures then c.put_zeros.ensures
