use mathlib.Core.Path.{◌∙◌}
use Rattle.store_block.specs.WordLaws.{word-four}
use Rattle.store_block.proofs.word.Goals as goal

pub returns : goal.returns
returns c = c.from_be_bytes.ensures ∙ word-four c.args.s.now c.args.i
