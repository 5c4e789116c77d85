use native.Mathlib.Omega.{arith}
use Rattle.store_block_sum.specs.Sum.{column_sum, column_rows}
use Rattle.store_block_sum.proofs.column.Goals as goal

pub returns : goal.returns
unfolding column_sum column_rows
returns c = record { all_is = omega arith; rows_is = omega arith; all_most = omega arith; rows_most = omega arith }
