use native.Mathlib.Omega.{arith}
use Rattle.fields_write_bytes.proofs.PushedLaws.{◌onto◌}
use Rattle.fields_write_bytes_field.proofs.push_raw.Goals as goal

pub push_bytes-a-requires : goal.push_bytes-a-requires
push_bytes-a-requires c = omega arith

pub push_head-requires : goal.push_head-requires
push_head-requires c = omega arith

pub shape_of-out : goal.shape_of-out
shape_of-out c = omega arith

pub returns : goal.returns
returns c =
    let bytes = c.push_bytes-a.ensures in
    let head = c.push_head.ensures in
    let f = bytes.from in
    (head.0 onto bytes, omega (arith, head.1))
