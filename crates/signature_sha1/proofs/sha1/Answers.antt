use Rattle.std.proofs.Common.{◌*◌, ◌^◌, arith, length, lt-ltb, le-ltb}
use Rattle.signature_sha1.specs.Sha1.{sha1, sha1_answer}
use Rattle.signature_sha1.proofs.sha1.Goals as goal

pub returns-then-text : goal.returns-then-text
unfolding sha1_answer sha1
returns-then-text c =
    let n = length c.args.text.now in
    simp (c.hash.ensures, lt-ltb (8 * n) (2 ^ 64) (omega arith))

pub returns : goal.returns
unfolding sha1_answer
returns c =
    let n = length c.args.text.now in
    simp (le-ltb (8 * n) (2 ^ 64) (omega arith))
