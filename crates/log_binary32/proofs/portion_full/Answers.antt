-- `log_binary32::portion_full` meets its contract. Both casts are exact, and the quotient is no NaN. Assumes nothing.
use native.Mathlib.Omega.{arith}
use Rattle.log_binary32.proofs.Portion.{fits-cast, portion-bits, portion-no-nan}
use Rattle.log_binary32.proofs.portion_full.Goals as goal

pub int_to_float-part : goal.int_to_float-part
int_to_float-part c = fits-cast c.args.used (omega arith)

pub int_to_float-part-2 : goal.int_to_float-part-2
int_to_float-part-2 c = fits-cast c.args.all (omega arith)

pub float_to_bits-result : goal.float_to_bits-result
float_to_bits-result c = portion-no-nan c.args.used c.args.all (omega arith) (omega arith) (omega arith)

pub returns : goal.returns
returns c = portion-bits c.args.used c.args.all (omega arith) (omega arith) (omega arith)
