use Rattle.fields_write_varint.specs.GroupsLaws.{length-by-bits}
use Rattle.fields_write_varint.proofs.varint_len.Goals as goal

pub returns : goal.returns
returns c =
    let h = c.ilog2-highest.ensures in
    length-by-bits c.args.v _ _ c.max.ensures h.power_le h.next_power_gt h.bound
