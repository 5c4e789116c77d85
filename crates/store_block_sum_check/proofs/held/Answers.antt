use native.Mathlib.Omega.{arith}
use Rattle.store_block.specs.Direct.{number_at}
use Rattle.store_block_sum_check.proofs.held.Goals as goal

pub returns : goal.returns
unfolding number_at
returns c =
    let w3 = c.wide-w.ensures in
    let w2 = c.wide-z.ensures in
    let w1 = c.wide-y.ensures in
    let w0 = c.wide-x.ensures in
    record { same = omega arith; byte1 = omega arith; byte2 = omega arith; byte3 = omega arith }
