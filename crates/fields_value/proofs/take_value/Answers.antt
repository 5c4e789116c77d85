use Rattle.fields_value.proofs.take_value.Goals as goal

pub returns-in-Varint : goal.returns-in-Varint
returns-in-Varint c = (λ s. rw (c.in_ok-f.was, c.in-Varint.is) (c.take_int.ensures s).0, λ s at h. (c.take_int.ensures s).1)
