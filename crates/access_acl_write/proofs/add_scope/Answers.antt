use Rattle.access_table_write.specs.Write.{put_scope}
use Rattle.access_acl_write.proofs.add_scope.Goals as goal

pub returns : goal.returns
unfolding put_scope
returns c = c.put_scope.ensures.same
