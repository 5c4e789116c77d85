use mathlib.Core.Path.{◌∙◌, sym, ap}
use native.Mathlib.Omega.{arith}
use Rattle.base_integers.specs.Signed.{word_of}
use Rattle.base_integers.specs.SignedLaws.{word_kept}
use Rattle.access_record.specs.Record.{word_bytes}
use Rattle.access_record_bytes.specs.WroteLaws.{renamed, ◌then◌, wrote-whole}
use Rattle.access_table_write.specs.WrittenLaws.{word_next, length-empty, empty-made}
use Rattle.access_table_write.proofs.clear_table.Goals as goal

pub put_zeros-requires : goal.put_zeros-requires
put_zeros-requires c =
    let w = c.put_signed-end.ensures in
    let n = word_next _ w in
    omega arith

pub returns : goal.returns
returns c =
    let w = word_of c.args.version in
    let k = word_kept c.args.version c.ranges.version.sfits in
    wrote-whole (renamed (ap word_bytes k) c.put_signed-end.ensures then c.put_zeros.ensures) (length-empty w ∙ sym c.told-device)
    ∙ empty-made w
