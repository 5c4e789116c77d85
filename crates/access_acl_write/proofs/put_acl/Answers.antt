use native.Mathlib.Omega.{arith}
use mathlib.Core.Path.{ap}
use Rattle.base_integers.specs.SignedLaws.{word_kept}
use Rattle.base_definitions.specs.BigEndian.{be32}
use Rattle.access_record.specs.Record.{word_bytes, acl_head}
use Rattle.access_table_write.specs.WrittenLaws.{word_next}
use Rattle.access_record_bytes.specs.WroteLaws.{renamed, ◌then◌}
use Rattle.access_acl_write.proofs.put_acl.Goals as goal

pub put_bytes-b-requires : goal.put_bytes-b-requires
put_bytes-b-requires c =
    let w = c.put_signed-a.ensures in
    let n = word_next _ w in
    omega arith

pub put_filled-requires : goal.put_filled-requires
put_filled-requires c =
    let w = c.put_signed-a.ensures in
    let n = word_next _ w in
    let p = c.put_bytes-b.ensures in
    (omega arith, c.requires.1)

pub returns : goal.returns
unfolding acl_head word_bytes be32
returns c =
    let k = word_kept c.args.identity c.ranges.identity.sfits in
    (renamed (ap word_bytes k) c.put_signed-a.ensures then c.put_bytes-b.ensures) then c.put_filled.ensures
