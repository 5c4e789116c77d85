-- `log_binary32::finite_lent` meets its contract. Assumes nothing.
use Rattle.std.proofs.Common.{rules}
use Rattle.log_binary32.specs.Celsius.{sent_of}
use Rattle.log_binary32.proofs.finite_lent.Goals as goal

pub returns : goal.returns
unfolding sent_of
returns c = search rules
