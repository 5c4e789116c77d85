-- What one block is found to be, change request 6: "the first that applies: 0 blank, 2 check wrong, 3 other rule broken".
use Rattle.std.specs.Prelude.{Bool, cond, List, ℕ, replicate}
use Rattle.store_block.specs.Order.{cmp}
use Rattle.std.specs.Ordering.{is_eq}
use Rattle.store_block.specs.Block.{block_test, sum_test}
use Rattle.store_rescue.specs.declared.state.BlockState.{BlockState}
use Rattle.store_rescue.specs.declared.state.BlockState.TheVariants.{Blank, SumWrong, RuleBroken, Sound}

-- "A blank block is 512 zero bytes."
unfoldable pub blank_test : List ℕ → Bool
blank_test b = is_eq (cmp b (replicate 512 0))

unfoldable pub state_of : List ℕ → BlockState
state_of b = cond (blank_test b) Blank (cond (sum_test b) (cond (block_test b) Sound RuleBroken) SumWrong)
