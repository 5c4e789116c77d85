use Rattle.std.proofs.Common.{arith, sym}
use Rattle.fields_write_bytes.proofs.PushedLaws.{pushed_none, again}
use Rattle.fields_write_bytes.proofs.TreePartsLaws.{maybe-nothing, maybe-number}
use Rattle.fields_write_optional.proofs.push_maybe.Goals as goal

pub returns-in-Some : goal.returns-in-Some
returns-in-Some c =
    let w = c.push_int.ensures in
    (again (maybe-number c.args.n _ c.args.m (sym c.in-Some.is)) w.0, w.1)

pub returns-in-None : goal.returns-in-None
returns-in-None c =
    (again (maybe-nothing c.args.n c.args.m (sym c.in-None.is)) (pushed_none _ _ c.requires.2), omega arith)
