use mathlib.Core.Path.{ap}
use mathlib.Core.Bool.{not}
use Rattle.access_record.specs.Table.{acl_of}
use Rattle.access_record.specs.Record.{table_of}
use Rattle.protocol.specs.Failure.{fault_of}
use Rattle.request_command.specs.Views.{body_view}
use Rattle.judge_admission.specs.AdmissionLaws.{forbidden, allowed}
use Rattle.judge_admission.proofs.Keys.{end_fits, key-cut}
use Rattle.judge_admission.proofs.admit.Goals as goal

pub body_fault-requires : goal.body_fault-requires
body_fault-requires c = c.requires.1

pub overflow_add-key : goal.overflow_add-key
overflow_add-key c = end_fits c.args.command.now c.args.body.entry.key c.well_formed.1.1.1.1.0.0 c.requires.1.entry.key.inside

pub slice_bounds-permitted-end : goal.slice_bounds-permitted-end
slice_bounds-permitted-end c = c.requires.1.entry.key.inside

pub permitted-requires : goal.permitted-requires
permitted-requires c = (c.requires.0, c.requires.2)

pub returns-then-not-permitted : goal.returns-then-not-permitted
returns-then-not-permitted c =
    λ v e. forbidden (acl_of (table_of c.args.device.now) c.args.acl) c.args.protected c.args.choice (body_view c.args.command.now c.args.body) v (c.body_fault.ensures v e) (ap fault_of c.in_ok-body_fault.was) (c.permitted.ensures (body_view c.args.command.now c.args.body) (key-cut c.args.command.now c.args.body c.requires.1)) (ap not c.if-not-permitted.true)

pub returns : goal.returns
returns c =
    λ v e. allowed (acl_of (table_of c.args.device.now) c.args.acl) c.args.protected c.args.choice (body_view c.args.command.now c.args.body) v (c.body_fault.ensures v e) (ap fault_of c.in_ok-body_fault.was) (c.permitted.ensures (body_view c.args.command.now c.args.body) (key-cut c.args.command.now c.args.body c.requires.1)) (ap not c.if-not-permitted.false)
