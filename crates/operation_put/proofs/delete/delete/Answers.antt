use mathlib.Core.Path.{ap}
use Rattle.protocol.specs.Failure.{code_of}
use Rattle.operation_put.specs.DeleteLaws.{delete-right}
use Rattle.operation_put.proofs.delete.delete.Goals as goal

pub returns : goal.returns
returns c =
    let r = c.delete_code.result in
    λ k p. delete-right c.requires p c.compare_version.result c.compare_version.ensures (code_of r) c.delete_code.ensures (ap code_of c.in_ok-delete_code.was) c.delete.ensures.store_after
