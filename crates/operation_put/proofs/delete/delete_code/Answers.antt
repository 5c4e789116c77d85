use mathlib.Core.Path.{sym, ap₂}
use Rattle.operation_put.specs.DeleteCode.{delete_code}
use Rattle.operation_put.proofs.delete.delete_code.Goals as goal

pub returns-in-Same : goal.returns-in-Same
returns-in-Same c = sym (ap₂ delete_code c.in-Same.is c.if-force.false)

pub returns-in-Other : goal.returns-in-Other
returns-in-Other c = sym (ap₂ delete_code c.in-Other.is c.if-force.false)

pub returns-in-Absent : goal.returns-in-Absent
returns-in-Absent c = sym (ap₂ delete_code c.in-Absent.is c.if-force.false)
