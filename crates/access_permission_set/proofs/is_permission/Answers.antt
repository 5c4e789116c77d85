use Prim.Native.Nat.{◌≤◌, ◌<◌}
use native.Mathlib.Omega.{arith}
use borrow.Author.Tests.{le-leb, lt-leb}
use Rattle.access_record.specs.Table.{named}
use Rattle.access_permission_set.proofs.is_permission.Goals as goal

pub returns-in_default : goal.returns-in_default
unfolding named
returns-in_default c = let low : 5 < c.args.p = omega arith in let high : c.args.p < 7 = omega arith in simp (lt-leb _ _ low, lt-leb _ _ high)

pub returns-in_default-2 : goal.returns-in_default-2
unfolding named
returns-in_default-2 c = let low : 5 < c.args.p = omega arith in let from : 7 ≤ c.args.p = omega arith in let high : 9 < c.args.p = omega arith in simp (lt-leb _ _ low, le-leb _ _ from, lt-leb _ _ high)

pub returns-in-0-to-5 : goal.returns-in-0-to-5
unfolding named
returns-in-0-to-5 c = let h : c.args.p ≤ 5 = omega arith in simp (le-leb _ _ h)

pub returns-in-0-to-5-2 : goal.returns-in-0-to-5-2
unfolding named
returns-in-0-to-5-2 c = let low : 5 < c.args.p = omega arith in let from : 7 ≤ c.args.p = omega arith in let high : c.args.p ≤ 9 = omega arith in simp (lt-leb _ _ low, le-leb _ _ from, le-leb _ _ high)
