use Rattle.base_definitions.specs.Bits.{bit}
use borrow.Author.Rules.{rules}
use Rattle.access_scope.proofs.holds.Goals as goal

pub returns : goal.returns
unfolding bit
returns c = search rules
