use Rattle.base_definitions.specs.BigEndian.{be32}
use Rattle.fields_write_bytes.proofs.PushedLaws.{◌onto◌}
use borrow.Author.Rules.{rules}
use Rattle.reply_envelope.proofs.push_prefix.Goals as goal

pub push_be32-b-requires : goal.push_be32-b-requires
unfolding be32
push_be32-b-requires c = search rules

pub push_byte-requires : goal.push_byte-requires
unfolding be32
push_byte-requires c = search rules

pub returns : goal.returns
returns c =
    c.push_byte.ensures onto (c.push_be32-b.ensures
    onto c.push_be32-a.ensures)
