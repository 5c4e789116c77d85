use native.Mathlib.Omega.{arith}
use Rattle.fields_write_bytes.proofs.PushedLaws.{◌onto◌}
use Rattle.fields_write_varint.specs.GroupsLaws.{varint-room}
use Rattle.fields_write_field.proofs.push_int.Goals as goal

pub push_varint-a-requires : goal.push_varint-a-requires
push_varint-a-requires c = let s = c.before.before in (varint-room _ _ (omega (arith, s.ranges.v.fits, s.requires.0)) (omega (arith, s.requires.1)), s.requires.2)

pub push_tag-requires : goal.push_tag-requires
push_tag-requires c = omega arith

pub shape_of-out : goal.shape_of-out
shape_of-out c = omega arith

pub returns : goal.returns
returns c =
    let number = c.push_varint-a.ensures in
    let tag = c.push_tag.ensures in
    (tag.0 onto number.0, omega arith)
