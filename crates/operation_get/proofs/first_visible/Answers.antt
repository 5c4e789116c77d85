use Rattle.access_permission.specs.Permissions.{READ}
use Rattle.operation_visible.specs.Seen.{seen_by}
use Rattle.operation_get.specs.ShownLaws.{found_first, missing-first}
use Rattle.operation_get.proofs.first_visible.Goals as goal

pub returns-then-rest-eq0 : goal.returns-then-rest-eq0
returns-then-rest-eq0 c =
    missing-first c.args.store.now c.requires.0 (seen_by c.args.device.now c.args.viewer READ) c.args.run c.skip_hidden-rest.ensures.0 c.if-rest-eq0.true

pub returns : goal.returns
returns c =
    found_first c.args.store.now c.requires.0 (seen_by c.args.device.now c.args.viewer READ) c.args.run c.skip_hidden-rest.ensures.0
    c.entry_at.result c.if-rest-eq0.false c.entry_at.ensures
