use native.Mathlib.Omega.{arith}
use Rattle.fields_write_bytes.proofs.PushedLaws.{◌onto◌}
use Rattle.fields_write_bytes_field.proofs.push_float.Goals as goal

pub push_le32-a-requires : goal.push_le32-a-requires
push_le32-a-requires c = omega arith

pub push_tag-requires : goal.push_tag-requires
push_tag-requires c = omega arith

pub shape_of-out : goal.shape_of-out
shape_of-out c = omega arith

pub returns : goal.returns
returns c =
    let bytes = c.push_le32-a.ensures in
    let tag = c.push_tag.ensures in
    let f = bytes.from in
    (tag.0 onto bytes, omega (arith, tag.1))
