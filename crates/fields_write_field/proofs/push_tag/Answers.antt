use native.Mathlib.Omega.{arith}
use Rattle.fields_write_varint.specs.GroupsLaws.{tag-room, tag-from}
use Rattle.fields_write_field.proofs.push_tag.Goals as goal

pub overflow_mul-n : goal.overflow_mul-n
overflow_mul-n c = omega arith

pub overflow_add-n : goal.overflow_add-n
overflow_add-n c = omega arith

pub push_varint-requires : goal.push_varint-requires
push_varint-requires c = let s = c.before.before in (tag-room _ _ (omega (arith, s.requires.0, s.requires.1)) s.requires.2, s.requires.3)

pub shape_of-out : goal.shape_of-out
shape_of-out c = omega arith

pub returns : goal.returns
returns c =
    let s = c.before.before.before.before.before in
    let w = c.push_varint.ensures.0 in
    (w, tag-from _ _ s.requires.0 s.requires.1 w)
