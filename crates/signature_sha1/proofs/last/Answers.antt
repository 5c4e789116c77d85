use mathlib.Core.Path.{refl}
use native.Mathlib.Omega.{arith}
use Rattle.signature_sha1.specs.PaddedBlockLaws.{marked-length, last_one, last-two}
use Rattle.signature_sha1.proofs.last.Goals as goal

pub sized-c-requires : goal.sized-c-requires
sized-c-requires c =
    let s = c.before.before.before in
    (rw c.marked-b.ensures (marked-length s.args.rest.now (omega arith)), s.requires.1)

pub returns-then-rest-lt56 : goal.returns-then-rest-lt56
returns-then-rest-lt56 c =
    let s = c.before.before.before.before.before.before in
    let a = s.args in
    rw (c.compress.ensures, c.sized-c.ensures, c.marked-b.ensures)
    (last_one a.h a.rest.now a.n s.requires.0 (omega arith))

pub sized-d-requires : goal.sized-d-requires
sized-d-requires c = (refl, c.requires.1)

pub returns : goal.returns
returns c =
    let s = c.before.before.before.before.before.before.before.before in
    let a = s.args in
    rw (c.compress-2.ensures, c.sized-d.ensures, c.compress-v.ensures, c.marked-b.ensures)
    (last-two a.h a.rest.now a.n s.requires.0 (omega arith))
