use native.Mathlib.Omega.{arith}
use Rattle.store_block_sum.specs.Sum.{last_four}
use Rattle.store_block_sum.proofs.last.Goals as goal

pub returns : goal.returns
unfolding last_four
returns c = omega arith
