use Rattle.base_definitions.specs.BigEndian.{be32}
use borrow.Author.Rules.{rules}
use Rattle.fields_write_word.proofs.push_be32.Goals as goal

pub returns : goal.returns
unfolding be32
returns c = search rules
