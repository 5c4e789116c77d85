use Rattle.store_block_sum.specs.Sum.{Columns}
use Rattle.store_block_sum.proofs.columns.Given as goal

abbrev pub invariant-loop-k : goal.invariant-loop-k
invariant-loop-k l = Columns l.b l.k l.c
