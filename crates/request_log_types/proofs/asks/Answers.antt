use Rattle.base_definitions.specs.Bits.{bit}
use Rattle.request_log_types.specs.LogTypeLaws.{types-ask}
use Rattle.request_log_types.proofs.asks.Goals as goal

pub returns : goal.returns
unfolding bit
returns c types h = types-ask h c.args.kind
