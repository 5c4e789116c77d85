use mathlib.Core.Path.{ap, ◌∙◌}
use Rattle.base_integers.specs.Signed.{word_of}
use Rattle.base_integers.specs.SignedLaws.{word_kept}
use Rattle.access_record.specs.Record.{with_cluster_version}
use Rattle.operation_put.specs.SetupLaws.{set-none, set-some}
use Rattle.operation_put.proofs.setup.setup.Goals as goal

pub returns-then-not-given : goal.returns-then-not-given
returns-then-not-given c = let a = c.args in set-none a.device.now a.given (word_of a.version) c.if-not-given.true

pub returns : goal.returns
returns c =
    let a = c.args in
    set-some a.device.now a.given (word_of a.version) c.if-not-given.false
    (c.set_cluster_version.ensures ∙ ap (with_cluster_version a.device.now) (word_kept a.version c.ranges.version.sfits))
